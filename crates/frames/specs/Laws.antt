-- What holds of every frame, above its definition.
use Rattle.std.specs.Prelude.{◌≡◌, ℕ, ◌^◌, ◌<◌, ◌≤◌, true, List, length, drop, Ok, Err, Result, FitsSigned}
use Rattle.std.specs.Int.{w32}
use Rattle.std.specs.List.{AllByRecursion}
use Rattle.kinds.specs.Changes.{plain}
use Rattle.kinds.specs.declared.change.Change.{Change}
use Rattle.kinds.specs.declared.change.Change.TheVariants.{Keep, Add, Set, Mask}
use Rattle.kinds.specs.declared.side.Side.{Side}
use Rattle.frames.specs.declared.frame.Frame.{Frame}
use Rattle.frames.specs.declared.refusal.FrameRefusal.{FrameRefusal}
use Rattle.frames.specs.Refusals.{frame_number}
use Rattle.frames.specs.Edits.{Edit, keep, insert, remark, delete, move, change, edit}
use Rattle.frames.specs.Frames.{printable, frame}

-- the change's numbers fit the four operand bytes: an amount of 32 signed bits, a choice of 32 bits, a mask and bits of 16 each
abbrev pub Operand : Change → Type 0
Operand Keep = Unit {0}
Operand (Add d) = FitsSigned w32 d
Operand (Set w) = w < 2 ^ 32
Operand (Mask m s) = (m < 2 ^ 16) × (s < 2 ^ 16)

-- The edit is one that a frame's bytes can hold, and its text is those from byte 4 on.
abbrev pub Held : List ℕ → Edit → Type 0
Held bytes keep = Unit {0}
Held bytes (insert at) = at < 65536
Held bytes (remark at text) = (at < 65536) × (length text ≤ 24) × (printable text ≡ true) × (text ≡ drop 4 bytes)
Held bytes (delete at) = at < 65536
Held bytes (move from to) = (from < 65536) × (to < 65536)
Held bytes (change at column e) = (at < 65536) × (column < 256) × Operand e × (plain e ≡ e)

-- What is read is held by the bytes; a refusal has the number 4.
abbrev pub Sound : List ℕ → Result Frame FrameRefusal → Type 0
Sound bytes (Ok f) = Held bytes (edit f.operation)
Sound bytes (Err e) = frame_number e ≡ 4

-- these bytes say the change there, from that side
pub record Says (s : Side) (at column : ℕ) (e : Change) (bytes : List ℕ) : Type 0 where
  pub are_bytes : AllByRecursion (λ b. b < 256) bytes
  pub read : frame bytes ≡ Ok (s, change at column e)

-- Every change whose numbers fit can be said, from each side, at each position and in each column that a frame can name.
abbrev pub Sayable : Type 0
Sayable = (s : Side) (at column : ℕ) (e : Change) → at < 65536 → column < 256 → Operand e →
    (bytes : List ℕ) × Says s at column (plain e) bytes

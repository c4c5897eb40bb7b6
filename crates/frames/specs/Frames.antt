-- A frame: a side letter, an operation letter, and what the operation adds. Bytes are counted from 0.
use Rattle.std.specs.Prelude.{ℕ, ◌+◌, ◌*◌, Bool, cond, ◌&&◌, List, length, drop, Ok, Err, Result, ◌==◌, nat_le, slice_index}
use Prim.Native.Char.{code}
use Prim.Native.String.{String, [] as end, ◌∷◌ as ◌then◌}
use Rattle.std.specs.Int.{w32, cast_signed}
use Rattle.std.specs.List.{list_all}
use Rattle.kinds.specs.Answers.{◌>>=◌, test}
use Rattle.kinds.specs.Changes.{plain}
use Rattle.kinds.specs.declared.change.Change.{Change}
use Rattle.kinds.specs.declared.change.Change.TheVariants.{Keep, Add, Set, Mask}
use Rattle.kinds.specs.declared.side.Side.{Side}
use Rattle.kinds.specs.declared.side.Side.TheVariants.{Left, Right}
use Rattle.frames.specs.declared.frame.Operation.{Operation}
use Rattle.frames.specs.declared.frame.Frame.{Frame}
use Rattle.frames.specs.declared.refusal.FrameRefusal.{FrameRefusal}
use Rattle.frames.specs.declared.refusal.FrameRefusal.TheVariants.{WrongLength, UnknownSide, UnknownOperation, RemarkFromTable, UnprintableText, UnknownChange, KeepWithOperand}
use Rattle.frames.specs.Edits.{Edit, keep, insert, remark, delete, move, change, edit}

-- the byte of a letter
abbrev pub letter : String → ℕ
letter end = 0
letter (c then s) = code c

-- the byte at i
abbrev pub byte : List ℕ → ℕ → ℕ
byte bytes i = slice_index bytes i

-- the number in the two bytes from i on, most significant first
abbrev pub two_bytes : List ℕ → ℕ → ℕ
two_bytes bytes i = byte bytes i * 256 + byte bytes (i + 1)

-- the number in the four bytes from i on, most significant first
abbrev pub four_bytes : List ℕ → ℕ → ℕ
four_bytes bytes i = byte bytes i * 16777216 + byte bytes (i + 1) * 65536 + byte bytes (i + 2) * 256 + byte bytes (i + 3)

-- L for the sheet, R for the table
abbrev pub side : ℕ → Result Side FrameRefusal
side b = cond (b == letter "L") (Ok Left) (cond (b == letter "R") (Ok Right) (Err UnknownSide))

-- the frame has just so many bytes
abbrev pub sized : ℕ → List ℕ → Result (Unit {0}) FrameRefusal
sized n bytes = test (length bytes == n) WrongLength

-- a byte that a text may have, from the space to the tilde
abbrev pub is_printable : ℕ → Bool
is_printable b = nat_le 32 b && nat_le b 126

-- a text of such bytes
abbrev pub printable : List ℕ → Bool
printable text = list_all is_printable text

-- N: a position, and a text of at most 24 bytes from byte 4 to the end
abbrev pub remark_in : List ℕ → Result Edit FrameRefusal
remark_in bytes = do
  _ ← test (nat_le 4 (length bytes) && nat_le (length bytes) 28) WrongLength
  _ ← test (printable (drop 4 bytes)) UnprintableText
  Ok (remark (two_bytes bytes 2) (drop 4 bytes))

-- the sheet alone has remarks
abbrev pub remark_from : Side → List ℕ → Result Edit FrameRefusal
remark_from Left bytes = remark_in bytes
remark_from Right bytes = Err RemarkFromTable

-- the change letter at byte 5 and its operand from byte 6 on: K 0, A an amount in two's complement, S a choice, F mask and bits
abbrev pub change_in : List ℕ → Result Change FrameRefusal
change_in bytes =
    cond (byte bytes 5 == letter "K") (cond (four_bytes bytes 6 == 0) (Ok Keep) (Err KeepWithOperand))
    (cond (byte bytes 5 == letter "A") (Ok (Add (cast_signed w32 (four_bytes bytes 6))))
    (cond (byte bytes 5 == letter "S") (Ok (Set (four_bytes bytes 6)))
    (cond (byte bytes 5 == letter "F") (Ok (Mask (two_bytes bytes 6) (two_bytes bytes 8)))
    (Err UnknownChange))))

-- C: a position, a column and a change, in its plain form
abbrev pub alteration_in : List ℕ → Result Edit FrameRefusal
alteration_in bytes = do
  _ ← sized 10 bytes
  e ← change_in bytes
  Ok (change (two_bytes bytes 2) (byte bytes 4) (plain e))

-- the operation letter at byte 1, and what it adds
abbrev pub edit_in : Side → List ℕ → Result Edit FrameRefusal
edit_in s bytes =
    cond (byte bytes 1 == letter "K") (sized 2 bytes >>= λ _. Ok keep)
    (cond (byte bytes 1 == letter "I") (sized 4 bytes >>= λ _. Ok (insert (two_bytes bytes 2)))
    (cond (byte bytes 1 == letter "N") (remark_from s bytes)
    (cond (byte bytes 1 == letter "D") (sized 4 bytes >>= λ _. Ok (delete (two_bytes bytes 2)))
    (cond (byte bytes 1 == letter "M") (sized 6 bytes >>= λ _. Ok (move (two_bytes bytes 2) (two_bytes bytes 4)))
    (cond (byte bytes 1 == letter "C") (alteration_in bytes)
    (Err UnknownOperation))))))

-- What bytes say: an edit from a side.
abbrev pub frame : List ℕ → Result (Side × Edit) FrameRefusal
frame bytes = do
  _ ← test (nat_le 2 (length bytes)) WrongLength
  s ← side (byte bytes 0)
  e ← edit_in s bytes
  Ok (s, e)

-- the answer to an operation, as an edit
abbrev pub told : Result Operation FrameRefusal → Result Edit FrameRefusal
told (Ok operation) = Ok (edit operation)
told (Err e) = Err e

-- the answer to a frame, as a side and an edit
abbrev pub said : Result Frame FrameRefusal → Result (Side × Edit) FrameRefusal
said (Ok f) = Ok (f.side, edit f.operation)
said (Err e) = Err e

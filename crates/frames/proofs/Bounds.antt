-- What is read of a frame is held by its bytes.
use Rattle.std.proofs.Common.{◌≡◌, ℕ, zero, suc, ◌+◌, ◌^◌, ◌<◌, Bool, true, false, cond, ◌&&◌, eqb, leb, List, length, drop, pos, negsuc, IfOk, Ok, Err, Result, sym, refl, ap, subst, arith, length-drop, w8, w32, Fits, SFits, to_z}
use mir.Facts.{sfits_to_z}
use Rattle.std.proofs.lemmas.Bool.{cond_both, leb-true, and_parts}
use Rattle.kinds.specs.Answers.{◌>>=◌, test}
use Rattle.kinds.specs.Changes.{plain}
use Rattle.kinds.specs.declared.change.Change.{Change}
use Rattle.kinds.specs.declared.change.Change.TheVariants.{Keep, Add, Set, Mask}
use Rattle.kinds.specs.declared.side.Side.{Side}
use Rattle.kinds.specs.declared.side.Side.TheVariants.{Left, Right}
use Rattle.frames.specs.declared.frame.Frame.{Frame}
use Rattle.frames.specs.declared.refusal.FrameRefusal.{FrameRefusal}
use Rattle.frames.specs.declared.refusal.FrameRefusal.TheVariants.{WrongLength, UnknownSide, UnknownOperation, RemarkFromTable, UnprintableText, UnknownChange, KeepWithOperand}
use Rattle.frames.specs.Refusals.{frame_number}
use Rattle.frames.specs.Edits.{Edit, keep, insert, remark, delete, move, change}
use Rattle.frames.specs.Frames.{byte, two_bytes, four_bytes, letter, side, sized, printable, remark_in, remark_from, change_in, alteration_in, edit_in, frame, said}
use Rattle.frames.specs.Laws.{Operand, Held, Sound}

-- what is answered is so
abbrev Answers : {X : Type 0} → (X → Type 0) → Result X FrameRefusal → Type 0
Answers P r = IfOk r P

tested : {X : Type 0} (P : X → Type 0) (t : Bool) (e : FrameRefusal) (r : Result X FrameRefusal) → (t ≡ true → Answers P r) → Answers P (test t e >>= λ _. r)
tested P true e r h = h refl
tested P false e r h = tt

bound : {X Y : Type 0} (P : X → Type 0) (Q : Y → Type 0) (r : Result X FrameRefusal) (k : X → Result Y FrameRefusal) → Answers P r → ((x : X) → P x → Answers Q (k x)) → Answers Q (r >>= k)
bound P Q (Ok x) k h next = next x h
bound P Q (Err e) k h next = tt

any : {X : Type 0} (r : Result X FrameRefusal) → Answers (λ _. Unit {0}) r
any (Ok x) = tt
any (Err e) = tt

plain_operand : (e : Change) → Operand e → Operand (plain e) × (plain (plain e) ≡ plain e)
plain_operand Keep h = (tt, refl)
plain_operand (Add (pos zero)) h = (tt, refl)
plain_operand (Add (pos (suc n))) h = (h, refl)
plain_operand (Add (negsuc n)) h = (h, refl)
plain_operand (Set w) h = (h, refl)
plain_operand (Mask m s) h =
    cond_both (eqb m 0 && eqb s 0) Keep (Mask m s) (λ e. Operand e × (plain e ≡ e)) (λ _. (tt, refl)) (λ other. (h, ap (λ b. cond b Keep (Mask m s)) other))

module _ (bytes : List ℕ) (small : (k : ℕ) → byte bytes k < 256) where
  two : (i : ℕ) → two_bytes bytes i < 65536
  two i = omega (arith, small i, small (i + 1))

  four : (i : ℕ) → four_bytes bytes i < 2 ^ 32
  four i = omega (arith, small i, small (i + 1), small (i + 2), small (i + 3))

  amount : SFits w32 (to_z w32 (four_bytes bytes 6))
  amount = sfits_to_z (record { fits = four 6 })

  change_held : Answers Operand (change_in bytes)
  change_held = by (eqb (byte bytes 5) (letter "K")) (eqb (four_bytes bytes 6) 0) (eqb (byte bytes 5) (letter "A")) (eqb (byte bytes 5) (letter "S")) (eqb (byte bytes 5) (letter "F"))
    where
      by : (k z a s f : Bool) → Answers Operand (cond k (cond z (Ok Keep) (Err KeepWithOperand)) (cond a (Ok (Add (to_z w32 (four_bytes bytes 6)))) (cond s (Ok (Set (four_bytes bytes 6))) (cond f (Ok (Mask (two_bytes bytes 6) (two_bytes bytes 8))) (Err UnknownChange)))))
      by true true a s f = tt
      by true false a s f = tt
      by false z true s f = amount
      by false z false true f = four 6
      by false z false false true = (two 6, two 8)
      by false z false false false = tt

  -- an operation of a fixed length
  sized_held : (n : ℕ) (e : Edit) → Held bytes e → Answers (Held bytes) (sized n bytes >>= λ _. Ok e)
  sized_held n e h = tested (Held bytes) (eqb (length bytes) n) WrongLength (Ok e) (λ _. h)

  alteration_held : Answers (Held bytes) (alteration_in bytes)
  alteration_held =
      tested (Held bytes) (eqb (length bytes) 10) WrongLength (change_in bytes >>= λ e. Ok (change (two_bytes bytes 2) (byte bytes 4) (plain e)))
      (λ _. bound Operand (Held bytes) (change_in bytes) (λ e. Ok (change (two_bytes bytes 2) (byte bytes 4) (plain e))) change_held
      (λ e h. (two 2, small 4, (plain_operand e h).0, (plain_operand e h).1)))

  remark_held : Answers (Held bytes) (remark_in bytes)
  remark_held =
      let text = remark (two_bytes bytes 2) (drop 4 bytes) in
      tested (Held bytes) (leb 4 (length bytes) && leb (length bytes) 28) WrongLength (test (printable (drop 4 bytes)) UnprintableText >>= λ _. Ok text)
      (λ lengths. tested (Held bytes) (printable (drop 4 bytes)) UnprintableText (Ok text)
      (λ good.
      let most = leb-true _ _ (and_parts (leb 4 (length bytes)) (leb (length bytes) 28) lengths).1 in
      (two 2, simp length-drop (omega arith), good, refl)))

  remark_from_held : (s : Side) → Answers (Held bytes) (remark_from s bytes)
  remark_from_held Left = remark_held
  remark_from_held Right = tt

  edit_held : (s : Side) → Answers (Held bytes) (edit_in s bytes)
  edit_held s = by (eqb (byte bytes 1) (letter "K")) (eqb (byte bytes 1) (letter "I")) (eqb (byte bytes 1) (letter "N")) (eqb (byte bytes 1) (letter "D")) (eqb (byte bytes 1) (letter "M")) (eqb (byte bytes 1) (letter "C"))
    where
      by : (k i n d m c : Bool) → Answers (Held bytes) (cond k (sized 2 bytes >>= λ _. Ok keep) (cond i (sized 4 bytes >>= λ _. Ok (insert (two_bytes bytes 2))) (cond n (remark_from s bytes) (cond d (sized 4 bytes >>= λ _. Ok (delete (two_bytes bytes 2))) (cond m (sized 6 bytes >>= λ _. Ok (move (two_bytes bytes 2) (two_bytes bytes 4))) (cond c (alteration_in bytes) (Err UnknownOperation)))))))
      by true i n d m c = sized_held 2 keep tt
      by false true n d m c = sized_held 4 (insert (two_bytes bytes 2)) (two 2)
      by false false true d m c = remark_from_held s
      by false false false true m c = sized_held 4 (delete (two_bytes bytes 2)) (two 2)
      by false false false false true c = sized_held 6 (move (two_bytes bytes 2) (two_bytes bytes 4)) (two 2, two 4)
      by false false false false false true = alteration_held
      by false false false false false false = tt

  frame_held : Answers (λ said. Held bytes said.1) (frame bytes)
  frame_held =
      tested (λ said. Held bytes said.1) (leb 2 (length bytes)) WrongLength (side (byte bytes 0) >>= λ s. edit_in s bytes >>= λ e. Ok (s, e))
      (λ _. bound (λ _. Unit {0}) (λ said. Held bytes said.1) (side (byte bytes 0)) (λ s. edit_in s bytes >>= λ e. Ok (s, e)) (any (side (byte bytes 0)))
      (λ s _. bound (Held bytes) (λ said. Held bytes said.1) (edit_in s bytes) (λ e. Ok (s, e)) (edit_held s) (λ e h. h)))

numbered : (e : FrameRefusal) → frame_number e ≡ 4
numbered WrongLength = refl
numbered UnknownSide = refl
numbered UnknownOperation = refl
numbered RemarkFromTable = refl
numbered UnprintableText = refl
numbered UnknownChange = refl
numbered KeepWithOperand = refl

-- a call that answers what the bytes say answers what they hold
pub sound : (bytes : List ℕ) (r : Result Frame FrameRefusal) → ((k : ℕ) → Fits w8 (byte bytes k)) → said r ≡ frame bytes → Sound bytes r
sound bytes (Ok f) small is = subst (Answers (λ said. Held bytes said.1)) (sym is) (frame_held bytes (λ k. (small k).fits))
sound bytes (Err e) small is = numbered e

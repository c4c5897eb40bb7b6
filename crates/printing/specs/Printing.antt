-- What a call that prints a text does with a buffer, and the number of its refusal.
use Rattle.std.specs.Prelude.{◌≡◌, ℕ, ◌<◌, ◌≤◌, List, ◌++◌, length, drop, Some, None, Ok, Err, Option, Result}
use Rattle.printing.specs.declared.refusal.PrintRefusal.{PrintRefusal}
use Rattle.printing.specs.declared.refusal.PrintRefusal.TheVariants.{NoSuchLine, ShortBuffer}

-- the number of the refusal
abbrev pub print_number : PrintRefusal → ℕ
print_number NoSuchLine = 5
print_number ShortBuffer = 12

-- What is answered, and what the buffer holds then: the count of the text's bytes, which stand at its front, and past them
-- what stood there; or, where it is shorter than 64 bytes, a refusal, and all that it held.
abbrev pub Outcome : List ℕ → List ℕ → List ℕ → Result ℕ PrintRefusal → Type 0
Outcome text before after (Ok count) = (64 ≤ length before) × (count ≡ length text) × (after ≡ text ++ drop count before)
Outcome text before after (Err refusal) = (length before < 64) × (refusal ≡ ShortBuffer) × (after ≡ before)

-- A text is printed, and it fits every buffer that is not refused.
pub record Prints (text before after : List ℕ) (result : Result ℕ PrintRefusal) : Type 0 where
  pub fits : length text ≤ 64
  pub outcome : Outcome text before after result

-- The text at a position is printed, if there is one there; the position is tried before the buffer.
abbrev pub PrintsAt : Option (List ℕ) → List ℕ → List ℕ → Result ℕ PrintRefusal → Type 0
PrintsAt None before after result = (result ≡ Err NoSuchLine) × (after ≡ before)
PrintsAt (Some text) before after result = Prints text before after result

-- A text that is written to the front of a report.
use Rattle.std.specs.Prelude.{◌≡◌, ℕ, List, ◌++◌, length, drop}

-- A text written to a report's front: so many bytes, and those past them stay.
pub record Written (text before : List ℕ) (count : ℕ) (after : List ℕ) : Type 0 where
  pub counts : count ≡ length text
  pub writes : after ≡ text ++ drop count before

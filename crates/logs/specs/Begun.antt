-- A line that has begun, as a contract sees it.
use Rattle.std.specs.Prelude.{ℕ, List}

-- The characters that are kept, and what the places past them hold.
pub record Begun : Type 0 where
  pub kept : List ℕ
  pub spare : List ℕ

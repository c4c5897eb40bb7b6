-- The number of each refusal.
use Rattle.std.specs.Prelude.{ℕ}
use Rattle.slots.specs.declared.refusal.Refusal.{Refusal}
use Rattle.slots.specs.declared.refusal.Refusal.TheVariants.{NotInList, Full}

-- the number by which a refusal is known
abbrev pub numbered : Refusal → ℕ
numbered NotInList = 5
numbered Full = 6

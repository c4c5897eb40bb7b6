-- The numbers of a kind's refusals.
use Rattle.std.specs.Prelude.{ℕ}
use Rattle.kinds.specs.declared.refusal.Refusal.{Refusal}
use Rattle.kinds.specs.declared.refusal.Refusal.TheVariants.{NotOfKind, DoesNotApply, NoSuchKind}

-- the number of each refusal
abbrev pub number : Refusal → ℕ
number NotOfKind = 8
number DoesNotApply = 9
number NoSuchKind = 11

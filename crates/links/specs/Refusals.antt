-- The numbers of a link's refusals.
use Rattle.std.specs.Prelude.{ℕ}
use Rattle.links.specs.declared.refusal.CarryRefusal.{CarryRefusal}
use Rattle.links.specs.declared.refusal.CarryRefusal.TheVariants.{NotOfKind, NoTranslation}
use Rattle.links.specs.declared.refusal.BuildRefusal.{BuildRefusal}
use Rattle.links.specs.declared.refusal.BuildRefusal.TheVariants.{CannotBuild}

-- of a change that is not carried
abbrev pub carry_number : CarryRefusal → ℕ
carry_number NotOfKind = 8
carry_number NoTranslation = 10

-- of a link that is not built
abbrev pub build_number : BuildRefusal → ℕ
build_number CannotBuild = 11

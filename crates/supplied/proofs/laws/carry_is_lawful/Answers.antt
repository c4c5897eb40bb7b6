use Rattle.supplied.specs.CarriesLemmas.{carry_lawful, rounds_down}
use Rattle.supplied.proofs.laws.carry_is_lawful.Goals as goal

pub returns : goal.returns
returns c = record { lawful = carry_lawful; agrees = λ s x y. ((λ a. a), (λ a. a)); rounds = rounds_down }

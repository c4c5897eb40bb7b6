use Rattle.supplied.specs.LowBitsLemmas.{low_lawful}
use Rattle.supplied.proofs.laws.low_is_lawful.Goals as goal

pub returns : goal.returns
returns c = record { lawful = low_lawful; agrees = λ s x y. ((λ a. a), (λ a. a)) }

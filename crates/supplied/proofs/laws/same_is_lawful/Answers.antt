use Rattle.supplied.specs.MemorylessLemmas.{same_lawful}
use Rattle.supplied.proofs.laws.same_is_lawful.Goals as goal

pub returns : goal.returns
returns c = record { lawful = same_lawful; agrees = λ s x y. ((λ a. a), (λ a. a)) }

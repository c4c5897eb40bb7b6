use Rattle.supplied.specs.MemorylessLemmas.{private_lawful}
use Rattle.supplied.proofs.laws.private_is_lawful.Goals as goal

pub returns : goal.returns
returns c = record { lawful = private_lawful; agrees = λ s x y. ((λ a. a), (λ a. a)) }

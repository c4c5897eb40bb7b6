use Rattle.supplied.specs.MemorylessLemmas.{label_lawful, label_agrees}
use Rattle.supplied.proofs.laws.label_is_lawful.Goals as goal

pub returns : goal.returns
returns c = record { lawful = label_lawful; agrees = label_agrees }

use Rattle.pair.proofs.Kept.{taken_out}
use Rattle.pair.proofs.pair.Pair.take_out.Goals as goal

pub invariant_of-self : goal.invariant_of-self
invariant_of-self g c = (taken_out c.args.self.now _ _ _ c.args.at c.requires _ _ _ c.remove.ensures c.remove-2.ensures c.remove-3.ensures).kept

pub returns : goal.returns
returns g c = (taken_out c.args.self.now _ _ _ c.args.at c.requires _ _ _ c.remove.ensures c.remove-2.ensures c.remove-3.ensures).results

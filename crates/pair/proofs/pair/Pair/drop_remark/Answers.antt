use Rattle.pair.proofs.Kept.{dropped}
use Rattle.pair.proofs.pair.Pair.drop_remark.Goals as goal

pub invariant_of-self : goal.invariant_of-self
invariant_of-self g c = (dropped c.args.self.now _ c.args.p c.requires.place c.requires.line _ c.remove.ensures).kept

pub returns : goal.returns
returns g c = (dropped c.args.self.now _ c.args.p c.requires.place c.requires.line _ c.remove.ensures).results

use Rattle.pair.proofs.Kept.{noted}
use Rattle.pair.proofs.pair.Pair.add_remark.Goals as goal

pub invariant_of-self : goal.invariant_of-self
invariant_of-self g c = (noted c.args.self.now _ c.args.p c.args.remark _ c.requires.place c.requires.room c.insert.ensures).kept

pub returns : goal.returns
returns g c = (noted c.args.self.now _ c.args.p c.args.remark _ c.requires.place c.requires.room c.insert.ensures).results

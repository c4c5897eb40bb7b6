use Rattle.pair.proofs.Kept.{put_in_place}
use Rattle.pair.proofs.pair.Pair.put.Goals as goal

pub invariant_of-self : goal.invariant_of-self
invariant_of-self g c = (put_in_place c.args.self.now _ _ _ c.args.at c.requires _ _ _ _ _ _ c.set.ensures c.set-2.ensures c.set-3.ensures).kept

pub returns : goal.returns
returns g c = (put_in_place c.args.self.now _ _ _ c.args.at c.requires _ _ _ _ _ _ c.set.ensures c.set-2.ensures c.set-3.ensures).results

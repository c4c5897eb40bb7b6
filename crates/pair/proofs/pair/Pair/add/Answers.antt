use Rattle.pair.proofs.Kept.{added}
use Rattle.pair.proofs.pair.Pair.add.Goals as goal

pub invariant_of-self : goal.invariant_of-self
invariant_of-self g c = (added c.args.self.now _ _ _ c.args.at _ _ _ c.requires.place c.requires.room c.insert.ensures c.insert-2.ensures c.insert-3.ensures).kept

pub returns : goal.returns
returns g c = (added c.args.self.now _ _ _ c.args.at _ _ _ c.requires.place c.requires.room c.insert.ensures c.insert-2.ensures c.insert-3.ensures).results

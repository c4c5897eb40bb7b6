use Rattle.pair.proofs.Kept.{shifted}
use Rattle.pair.proofs.pair.Pair.shift.Goals as goal

pub invariant_of-self : goal.invariant_of-self
invariant_of-self g c = (shifted c.args.self.now _ _ _ c.args.from c.requires.from c.args.to _ _ _ c.requires.to c.move_item.ensures c.move_item-2.ensures c.move_item-3.ensures).kept

pub returns : goal.returns
returns g c = (shifted c.args.self.now _ _ _ c.args.from c.requires.from c.args.to _ _ _ c.requires.to c.move_item.ensures c.move_item-2.ensures c.move_item-3.ensures).results

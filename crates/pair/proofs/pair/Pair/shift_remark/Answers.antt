use Rattle.pair.proofs.Kept.{shifted_remark}
use Rattle.pair.proofs.pair.Pair.shift_remark.Goals as goal

pub invariant_of-self : goal.invariant_of-self
invariant_of-self g c = (shifted_remark c.args.self.now _ c.args.p c.requires.place c.requires.line c.args.q _ c.requires.target c.move_item.ensures).kept

pub returns : goal.returns
returns g c = (shifted_remark c.args.self.now _ c.args.p c.requires.place c.requires.line c.args.q _ c.requires.target c.move_item.ensures).results

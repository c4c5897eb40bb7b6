use Rattle.pair.specs.State.{state}
use Rattle.pair.proofs.Trying.{row_read, line_read, record_read}
use Rattle.pair.proofs.pair.Pair.row.Goals as goal

pub returns-in-Left : goal.returns-in-Left
returns-in-Left g c = let d = state c.args.self.now in
    row_read d c.args.told c.args.at c.args.side _ (line_read d c.args.told c.args.at c.args.side _ c.in-Left.is c.line_row.ensures)

pub returns-in-Right : goal.returns-in-Right
returns-in-Right g c = let d = state c.args.self.now in
    row_read d c.args.told c.args.at c.args.side _ (record_read d c.args.told c.args.at c.args.side _ c.in-Right.is c.item_at.ensures)

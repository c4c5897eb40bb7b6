use Rattle.std.proofs.Common.{sym, ap, ◌∙◌}
use Rattle.pair.specs.Edits.{tried_on}
use Rattle.documents.specs.Across.{change_at}
use Rattle.pair.specs.State.{state}
use Rattle.pair.proofs.Trying.{row_kept}
use Rattle.pair.proofs.pair.Pair.retry_change.Goals as goal

pub returns-in-Keep : goal.returns-in-Keep
returns-in-Keep g c =
    let d = state c.args.self.now in
    row_kept c.args.side d c.args.edit.position c.args.at c.row.result c.requires c.row.ensures.value
    ∙ ap (λ z. tried_on g.R.Rows.columns c.args.side c.args.edit.position (change_at c.args.at c.args.edit.column z) d) (sym c.in-Keep.is)

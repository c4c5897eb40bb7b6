use Rattle.std.proofs.Common.{◌≡◌, ◌-◌, suc, sym, ap, subst, ◌∙◌, arith}
use Rattle.documents.specs.Documents.{item, line}
use Rattle.pair.specs.Cells.{mapped}
use Rattle.printing.specs.Printing.{PrintsAt}
use Rattle.printing.specs.Texts.{sheet_line}
use Rattle.playback.specs.Printed.{report_lines, table_lines}
use Rattle.playback.specs.States.{day}
use Rattle.playback.proofs.Items.{need_some, need_none, front, past}
use Rattle.playback.proofs.replay.Replay.print.Goals as goal

pub returns-in-Ok : goal.returns-in-Ok
returns-in-Ok g c =
    let d = day c.args.self.now in
    let next : c.args.at ≡ suc c.in-Some.at = omega arith in
    let here = need_some _ _ (line c.in-Ok.line) (ap (mapped line) (sym c.in-Ok.is) ∙ c.line.ensures) in
    let is = ap (item (report_lines d)) next ∙ front sheet_line d.state.lines (table_lines d) c.in-Some.at (line c.in-Ok.line) here in
    subst (λ o. PrintsAt o c.args.buffer.now c.print_sheet_line.new.buffer c.print_sheet_line.result) (sym is) c.print_sheet_line.ensures

pub returns-in-Err : goal.returns-in-Err
returns-in-Err g c =
    let d = day c.args.self.now in
    let next : c.args.at ≡ suc c.in-Some.at = omega arith in
    let none = need_none (item d.state.lines c.in-Some.at) _ _ (ap (mapped line) (sym c.in-Err.is) ∙ c.line.ensures) in
    let is = ap (item (report_lines d)) next ∙ past sheet_line d.state.lines (table_lines d) c.in-Some.at none ∙ ap (λ n. item (table_lines d) (c.in-Some.at - n)) (sym c.line_count-lines.ensures) in
    subst (λ o. PrintsAt o c.args.buffer.now c.print_table.new.buffer c.print_table.result) (sym is) c.print_table.ensures

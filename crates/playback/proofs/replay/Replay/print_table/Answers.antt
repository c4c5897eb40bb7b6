use Rattle.std.proofs.Common.{◌≡◌, ◌-◌, suc, length, [], ◌∷◌, Err, sym, refl, ap, subst, ◌∙◌, arith}
use Rattle.documents.specs.Documents.{item}
use Rattle.printing.specs.declared.refusal.PrintRefusal.TheVariants.{NoSuchLine}
use Rattle.printing.specs.Printing.{PrintsAt}
use Rattle.printing.specs.Texts.{record_text, end_line}
use Rattle.playback.specs.Printed.{table_lines}
use Rattle.playback.specs.States.{day}
use Rattle.playback.proofs.Items.{need_some, need_none, front, past, beyond, only, no_other}
use Rattle.playback.proofs.replay.Replay.print_table.Goals as goal

pub returns-in-Ok : goal.returns-in-Ok
returns-in-Ok g c =
    let d = day c.args.self.now in
    let next : c.args.at ≡ suc c.in-Some.at = omega arith in
    let here = need_some _ _ c.in-Ok.record (sym c.in-Ok.is ∙ c.record.ensures) in
    let is = ap (item (table_lines d)) next ∙ front record_text d.state.records (end_line d.accepted d.refused ∷ []) c.in-Some.at c.in-Ok.record here in
    subst (λ o. PrintsAt o c.args.buffer.now c.print_record.new.buffer c.print_record.result) (sym is) c.print_record.ensures

pub returns-in-Err : goal.returns-in-Err
returns-in-Err g c =
    let d = day c.args.self.now in
    let next : c.args.at ≡ suc c.in-Some.at = omega arith in
    let none = need_none (item d.state.records c.in-Some.at) _ _ (sym c.in-Err.is ∙ c.record.ensures) in
    let end : c.in-Some.at - length d.state.records ≡ 0 = omega (arith, c.if-at-records.true, c.record_count-records.ensures) in
    let is = ap (item (table_lines d)) next ∙ past record_text d.state.records (end_line d.accepted d.refused ∷ []) c.in-Some.at none ∙ only _ _ end in
    subst (λ o. PrintsAt o c.args.buffer.now c.print_end.new.buffer c.print_end.result) (sym is) c.print_end.ensures

pub returns-in-Err-2 : goal.returns-in-Err-2
returns-in-Err-2 g c =
    let d = day c.args.self.now in
    let next : c.args.at ≡ suc c.in-Some.at = omega arith in
    let none = need_none (item d.state.records c.in-Some.at) _ _ (sym c.in-Err-2.is ∙ c.record.ensures) in
    let far = beyond d.state.records c.in-Some.at none in
    let is = ap (item (table_lines d)) next ∙ past record_text d.state.records (end_line d.accepted d.refused ∷ []) c.in-Some.at none ∙ no_other _ _ (λ z. c.if-at-records.false (omega (arith, far, z, c.record_count-records.ensures))) in
    subst (λ o. PrintsAt o c.args.buffer.now c.args.buffer.now (Err NoSuchLine)) (sym is) (refl, refl)

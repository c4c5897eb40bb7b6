use Rattle.std.proofs.Common.{sym, refl, ap, ◌∙◌}
use Rattle.printing.specs.Texts.{refusal_line}
use Rattle.playback.proofs.Reported.{accepted_said, refused_said}
use Rattle.playback.proofs.Writings.{written_as, printed_is}
use Rattle.playback.proofs.replay.Replay.report_line.Goals as goal

pub returns-in-Ok : goal.returns-in-Ok
returns-in-Ok g c =
    let none = accepted_said g.R.Rows.columns c.args.self.now c.args.line.now (sym c.if-has_ended.ensures) c.play_line.new.self c.in-Ok.field-0 c.in-Ok.ensures in
    record {
      leaves = c.play_line.ensures.leaves;
      stays = c.play_line.ensures.stays;
      reports = written_as _ _ _ _ _ none (record { counts = refl; writes = refl });
    }

pub returns-in-Err : goal.returns-in-Err
returns-in-Err g c =
    let is = refused_said g.R.Rows.columns c.args.self.now c.args.line.now (sym c.if-has_ended.ensures) c.play_line.new.self _ c.in-Err.ensures in
    record {
      leaves = c.play_line.ensures.leaves;
      stays = c.play_line.ensures.stays;
      reports = written_as _ _ _ _ _ (ap (refusal_line c.in-Err.fault.line) c.number.ensures ∙ is) (printed_is _ _ _ _ _ c.print_refusal.ensures c.unwrap.ensures);
    }

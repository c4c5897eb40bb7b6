use Rattle.std.proofs.Common.{Ok, sym, refl, ap, ◌∙◌, arith}
use Rattle.std.proofs.lemmas.Result.{err_from_is_err_and}
use Rattle.pair.specs.State.{state, said}
use Rattle.playback.specs.Days.{answer, state_then}
use Rattle.playback.specs.States.{day}
use Rattle.playback.proofs.Outcomes.{refusal_read, skip_read, outcome_read, frame_is, frame_accepted, frame_refused, frame_leaves}
use Rattle.playback.proofs.replay.Replay.try_line.Goals as goal

pub returns-in_err-count : goal.returns-in_err-count
returns-in_err-count g c =
    let s = c.args.self.now in
    let p = err_from_is_err_and c.from_residual.result c.from_residual.ensures.1 in
    let a = refusal_read _ _ (sym c.in_err-count.was ∙ c.read_line.ensures.answers) in
    let o = outcome_read g.R.Rows.columns (day s) c.args.line.now (omega arith) _ a in
    rw (p.1, p.2) record {
      answers = sym (ap answer o);
      leaves = sym (ap (state_then (state s.pair.now)) o);
      lines_stay = refl;
      accepted_stay = refl;
      refused_stay = refl;
      start_stays = refl;
    }

pub returns-in_default : goal.returns-in_default
returns-in_default g c =
    let s = c.args.self.now in
    let a = skip_read _ (sym (c.in_ok-count.was ∙ ap Ok c.in_default.is) ∙ c.read_line.ensures.answers) in
    let o = outcome_read g.R.Rows.columns (day s) c.args.line.now (omega arith) _ a in
    record {
      answers = sym (ap answer o);
      leaves = sym (ap (state_then (state s.pair.now)) o);
      lines_stay = refl;
      accepted_stay = refl;
      refused_stay = refl;
      start_stays = refl;
    }

pub returns-in_err-play : goal.returns-in_err-play
returns-in_err-play g c =
    let s = c.args.self.now in
    let p = err_from_is_err_and c.from_residual-in_err-play.result c.from_residual-in_err-play.ensures.1 in
    let f = frame_is g.R.Rows.columns (day s) c.args.line.now (omega arith) _ c.read_line.new.buffer c.in-Some.count (sym (c.in_ok-count.was ∙ ap Ok c.in-Some.is) ∙ c.read_line.ensures.answers) c.read_line.ensures.writes in
    let h = c.play.ensures.plays in
    rw (p.1, p.2) record {
      answers = frame_refused _ _ f _ (sym (ap said c.in_err-play.was) ∙ h.answers);
      leaves = frame_leaves _ _ f _ (state c.play.new.self) h.leaves;
      lines_stay = refl;
      accepted_stay = refl;
      refused_stay = refl;
      start_stays = refl;
    }

pub returns : goal.returns
returns g c =
    let s = c.args.self.now in
    let f = frame_is g.R.Rows.columns (day s) c.args.line.now (omega arith) _ c.read_line.new.buffer c.in-Some.count (sym (c.in_ok-count.was ∙ ap Ok c.in-Some.is) ∙ c.read_line.ensures.answers) c.read_line.ensures.writes in
    let h = c.play.ensures.plays in
    record {
      answers = frame_accepted _ _ f _ (sym (ap said c.in_ok-play.was) ∙ h.answers);
      leaves = frame_leaves _ _ f _ (state c.play.new.self) h.leaves;
      lines_stay = refl;
      accepted_stay = refl;
      refused_stay = refl;
      start_stays = refl;
    }

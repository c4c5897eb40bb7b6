use Rattle.std.proofs.Common.{refl, ap, ◌∙◌, [], arith}
use Rattle.logs.specs.Feeding.{midst}
use Rattle.playback.specs.Days.{next}
use Rattle.playback.specs.Readers.{report, reader}
use Rattle.playback.specs.States.{day}
use Rattle.playback.proofs.Fronts.{all_fed, all_said, line_fed, line_said, kept_short}
use Rattle.playback.proofs.Reading.{reads81}
use Rattle.playback.proofs.Writings.{written_as}
use Rattle.playback.proofs.replay.Replay.feed_line.Goals as goal

pub invariant_of-self-clause-short : goal.invariant_of-self-clause-short
invariant_of-self-clause-short g c = kept_short 81 c.extend.new.self.kept _ c.extend.ensures

pub invariant_of-self-2-clause-short : goal.invariant_of-self-2-clause-short
invariant_of-self-2-clause-short g c = kept_short 81 c.extend-2.new.self.kept _ c.extend-2.ensures

pub returns-in_default-clause-takes : goal.returns-in_default-clause-takes
returns-in_default-clause-takes g c =
    let s = c.args.self.now in
    let r = reader g.R.Rows.columns in
    let none = c.in_default.ensures in
    record {
      within = omega arith;
      leaves = ap (midst (day s)) c.extend.ensures ∙ all_fed r (day s) s.start.kept c.args.piece.now s.short none;
      reports = written_as _ _ _ _ _ (all_said r (day s) s.start.kept c.args.piece.now s.short none) (record { counts = refl; writes = refl });
    }

pub returns-clause-takes : goal.returns-clause-takes
returns-clause-takes g c =
    let s = c.args.self.now in
    let row = g.R.Rows.columns in
    let at = c.in-Some.ensures in
    let ends = c.end_line-written.ensures in
    record {
      within = omega (arith, at.0);
      leaves = ends.leaves ∙ ap (λ l. midst (next row (day s) l) []) c.extend-2.ensures ∙ line_fed (reader row) (day s) s.start.kept c.args.piece.now s.short (reads81 row) c.in-Some.end at;
      reports =
          written_as _ _ _ _ _
          (ap (report row (day s)) c.extend-2.ensures ∙ line_said (reader row) (day s) s.start.kept c.args.piece.now s.short (reads81 row) c.in-Some.end at)
          ends.reports;
    }

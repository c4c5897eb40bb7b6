use Rattle.std.proofs.Common.{inl, inr, ⊎_elim, arith}
use Rattle.std.proofs.lemmas.Bool.{cases_lt}
use Rattle.playback.proofs.Takings.{takes_on, none_written}
use Rattle.playback.proofs.Writings.{written_within}
use Rattle.playback.proofs.replay.Replay.feed.Goals as goal

pub loop-taken-preserved : goal.loop-taken-preserved
loop-taken-preserved g c =
    let i = c.loop-taken.invariant in
    let more =
    takes_on g.R.Rows.columns c.args.self.now c.loop-taken.self c.feed_line-fed.new.self c.args.piece.now c.args.report.now c.loop-taken.report c.feed_line-fed.new.report
    (record { taken = c.loop-taken.taken; written = c.loop-taken.written }) c.feed_line-fed.result i.so_far c.feed_line-fed.ensures.takes in
    record {
      so_far = more;
      in_report = written_within _ c.args.report.now _ _ more.reports;
      waits = λ short. absurd (omega (arith, c.if-report-written-ge-SHORTEST_REPORT.true, c.loop-taken.auto.report, short));
    }

pub returns-else-report-written-ge-SHORTEST_REPORT :
    goal.returns-else-report-written-ge-SHORTEST_REPORT
returns-else-report-written-ge-SHORTEST_REPORT g c =
    let i = c.loop-taken.invariant in
    let full = c.if-report-written-ge-SHORTEST_REPORT.false in
    let same = c.loop-taken.auto.report in
    record {
      takes = i.so_far;
      stops = inr (omega (arith, full, same, i.in_report));
      goes_on = λ some room.
          ⊎_elim (λ some. some)
          (λ none.
          absurd
          (omega (
            arith,
            full,
            same,
            room,
            none_written g.R.Rows.columns c.args.self.now c.loop-taken.self c.args.piece.now c.args.report.now c.loop-taken.report (record { taken = c.loop-taken.taken; written = c.loop-taken.written }) i.so_far (omega (arith, none)),
          )))
          (cases_lt 0 c.loop-taken.taken);
      waits = i.waits;
    }

pub returns-after-loop-taken : goal.returns-after-loop-taken
returns-after-loop-taken g c =
    let i = c.loop-taken.invariant in
    let all = c.loop-taken-test.false in
    record {
      takes = i.so_far;
      stops = inl (omega (arith, all, i.so_far.within));
      goes_on = λ some room. omega (arith, all, some);
      waits = i.waits;
    }

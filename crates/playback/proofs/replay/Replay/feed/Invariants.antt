use Rattle.std.proofs.Common.{length, ◌≡◌, ◌-◌, ◌<◌, ◌≤◌}
use Rattle.playback.specs.Feedings.{Takes}
use Rattle.playback.proofs.replay.Replay.feed.Given as goal

-- what was taken and written so far, within the report, and nothing if that is too short
abbrev pub invariant-loop-taken : goal.invariant-loop-taken
invariant-loop-taken g l = record {
  so_far : Takes g.R.Rows.columns l.fn.self l.piece l.fn.report (record { taken = l.taken; written = l.written }) l.self l.report;
  in_report : l.written ≤ length l.report;
  waits : length l.fn.report < 64 → l.taken ≡ 0;
}

-- the bytes of the piece that are left
abbrev pub decreases-loop-taken : goal.decreases-loop-taken
decreases-loop-taken g l = length l.piece - l.taken

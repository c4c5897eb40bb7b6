use Rattle.std.proofs.Common.{◌≡◌, length}
use Rattle.replay.proofs.running.feed.Given as goal

abbrev pub invariant-loop-rest : goal.invariant-loop-rest
invariant-loop-rest g l = length l.report ≡ 4096

abbrev pub decreases-loop-rest : goal.decreases-loop-rest
decreases-loop-rest g l = length l.rest

use Rattle.std.proofs.Common.{◌≡◌, length}
use Rattle.explain.proofs.main.Given as goal

-- the piece keeps its length
abbrev pub invariant-loop : goal.invariant-loop
invariant-loop l = length l.piece ≡ 65536

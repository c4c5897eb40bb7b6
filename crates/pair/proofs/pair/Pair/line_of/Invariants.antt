use Rattle.std.proofs.Common.{◌≡◌, ◌+◌, drop}
use Rattle.documents.specs.Documents.{line_of}
use Rattle.pair.specs.Written.{written}
use Rattle.pair.proofs.pair.Pair.line_of.Given as goal

abbrev pub invariant-loop-i : goal.invariant-loop-i
invariant-loop-i g l = line_of l.j (written l.lines) ≡ l.i + line_of l.left (drop l.i (written l.lines))

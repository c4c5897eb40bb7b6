use Rattle.std.proofs.Common.{◌≡◌, ◌++◌, map, take, drop}
use Rattle.frames.proofs.Digits.{byte_of}
use Rattle.frames.proofs.line.write_bytes.Given as goal

abbrev pub invariant-loop-at : goal.invariant-loop-at
invariant-loop-at l = l.buffer ≡ take l.at (map byte_of l.pairs) ++ drop l.at l.initial.buffer

use Rattle.std.proofs.Common.{arith}
use Rattle.std.proofs.lemmas.Bool.Decides.{nat_tests}
use Rattle.kinds.specs.Kinds.{apply}
use Rattle.kinds.proofs.kind.Kind.apply.Goals as goal

pub returns-then-not-takes : goal.returns-then-not-takes
unfolding apply
returns-then-not-takes c = grind (arith, nat_tests)

pub returns-then-value-self : goal.returns-then-value-self
unfolding apply
returns-then-value-self c = grind (arith, nat_tests)

pub returns : goal.returns
unfolding apply
returns c = grind (arith, nat_tests)

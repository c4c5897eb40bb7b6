use Rattle.std.proofs.Common.{◌≡◌, Ok, Err, arith}
use Rattle.std.proofs.lemmas.Bool.Decides.{nat_tests}
use Rattle.kinds.specs.declared.refusal.Refusal.TheVariants.{NotOfKind}
use Rattle.kinds.specs.Kinds.{fold}
use Rattle.kinds.proofs.Folding.{stands_for}
use Rattle.kinds.proofs.kind.Kind.fold.Goals as goal

pub returns-then-takes-2 : goal.returns-then-takes-2
unfolding fold
returns-then-takes-2 c =
    let answer : Ok c.folded.result ≡ fold c.args.self c.args.first c.args.second = grind (arith, nat_tests) in
    record { answer = answer; stands = stands_for _ _ _ _ answer }

pub returns-else-takes : goal.returns-else-takes
unfolding fold
returns-else-takes c =
    let answer : Err NotOfKind ≡ fold c.args.self c.args.first c.args.second = grind (arith, nat_tests) in
    record { answer = answer; stands = stands_for _ _ _ _ answer }

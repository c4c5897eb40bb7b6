use Rattle.std.proofs.Common.{◌∙◌, ap, nat_eq, ◌&&◌}
use Rattle.kinds.specs.Kinds.{same_kind}
use Rattle.kinds.proofs.Same.{same_letters}
use Rattle.kinds.proofs.kind.Kind.same.Goals as goal

pub returns : goal.returns
unfolding same_kind
returns c = c.eq.ensures ∙ ap (λ b. b && nat_eq c.args.self.limit c.args.other.limit) (same_letters c.args.self.letter c.args.other.letter)

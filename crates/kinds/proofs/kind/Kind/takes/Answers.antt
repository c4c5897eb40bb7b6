use Rattle.std.proofs.Common.{ap, ◌∙◌}
use Rattle.kinds.specs.Kinds.{fits, of_kind}
use Rattle.kinds.proofs.kind.Kind.takes.Goals as goal

pub returns : goal.returns
unfolding of_kind
returns c = c.fits.ensures ∙ ap (fits c.args.self.letter c.args.self.limit) c.plain.ensures

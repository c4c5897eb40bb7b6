use Rattle.std.proofs.Common.{sym}
use Rattle.kinds.proofs.Same.{new_kind_is, new_kind_not}
use Rattle.kinds.proofs.kind.Kind.new.Goals as goal

pub returns-then-allows : goal.returns-then-allows
returns-then-allows c = new_kind_is _

pub returns-else-allows : goal.returns-else-allows
returns-else-allows c = new_kind_not _ _ (sym c.if-allows.ensures)

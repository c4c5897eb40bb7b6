use Rattle.std.proofs.Common.{◌≡◌, pos, ◌*ℤ◌, Ok, sym, ap, ◌∙◌, arith, w32, to_z, of_z}
use Rattle.std.proofs.lemmas.Int.{ints, to_z-of_z}
use Rattle.kinds.specs.declared.change.Change.TheVariants.{Add}
use Rattle.kinds.specs.Changes.{plain}
use Rattle.links.specs.Laws.{answer, link_after}
use Rattle.supplied.specs.CarriesLemmas.{left_at}
use Rattle.supplied.proofs.carry_link.CarryLink.carry_left.Goals as goal

pub overflow_mul-self : goal.overflow_mul-self
overflow_mul-self c =
    let small = (left_at c.args.self.now _ _ _ c.added-lots.result c.right_kind.ensures c.in_ok-admit.ensures c.added-lots.ensures).1 in
    grind (arith, ints, to_z-of_z)

pub returns : goal.returns
returns c =
    let self = c.args.self.now in
    let lots = c.added-lots.result in
    let at = left_at self _ c.args.change _ lots c.right_kind.ensures c.in_ok-admit.ensures c.added-lots.ensures in
    let small = at.1 in
    let z : to_z w32 (of_z w32 (to_z w32 self.ratio *ℤ to_z w32 (of_z w32 lots))) ≡ pos self.ratio *ℤ lots = grind (arith, ints, to_z-of_z) in
    record { answers = ap Ok (c.plain.ensures ∙ ap (λ o. plain (Add o)) z) ∙ sym (ap answer at.0); leaves = sym (ap (link_after self) at.0) }

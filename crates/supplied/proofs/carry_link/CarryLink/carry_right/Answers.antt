use Rattle.std.proofs.Common.{◌^◌, ◌<◌, pos, ◌+ℤ◌, sym, refl, ap, ◌∙◌, w32, w64, SFits, rules}
use Rattle.links.specs.Laws.{answer, link_after}
use Rattle.supplied.specs.Carries.{remainder}
use Rattle.supplied.specs.CarriesLemmas.{right_at, split_sent, sum_at, found_at}
use Rattle.supplied.proofs.carry_link.CarryLink.carry_right.Goals as goal

pub returns : goal.returns
returns c =
    let self = c.args.self.now in
    let rest-fits : self.rest < 2 ^ 32 = search rules in
    let amount-fits : SFits w32 c.added-amount.result = search rules in
    let lots-fits : SFits w64 c.split-lots.result.0 = search rules in
    let sum = sum_at self.rest c.added-amount.result _ _ rest-fits amount-fits c.from.ensures c.from-2.ensures ∙ ap (λ z. pos self.rest +ℤ z) c.added-amount.ensures in
    let found = found_at self _ _ c.split-lots.result.0 _ sum lots-fits c.split-lots.ensures.lots c.in_ok-answer.ensures in
    let rest_is = c.split-lots.ensures.rest ∙ ap (λ z. remainder z self.ratio) sum in
    let at = right_at self _ c.args.change _ c.left_kind.ensures c.in_ok-admit.ensures ∙ split_sent self _ _ _ found refl refl (sym rest_is) in
    record { answers = sym (ap answer at); leaves = sym (ap (link_after self) at) }

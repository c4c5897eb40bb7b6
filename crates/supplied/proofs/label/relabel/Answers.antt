use Rattle.std.proofs.Common.{◌≤◌, Ok, sym, ap, ◌∙◌, rules}
use Rattle.links.specs.Translations.{admitted}
use Rattle.links.specs.TranslationsLemmas.{admitted_out}
use Rattle.supplied.specs.MemorylessLemmas.{label_small}
use Rattle.supplied.proofs.label.relabel.Goals as goal

pub overflow_cast-choice : goal.overflow_cast-choice
overflow_cast-choice c =
    let e = c.args.change in
    let a = admitted_out _ e _ (sym (ap Ok c.in-Set.is) ∙ c.in_ok-other.ensures ∙ ap (λ k. admitted k e) c.byte.ensures) in
    let small : c.in-Set.choice ≤ 255 = label_small e _ a.0 a.1 in
    search rules

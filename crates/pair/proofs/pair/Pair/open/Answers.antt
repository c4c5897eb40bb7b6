use Rattle.std.proofs.Common.{◌≡◌, ℕ, List, [], ◌∷◌, length, replicate, sym, refl, ap, ◌∙◌, subst, arith, rules}
use Rattle.std.specs.List.{FoldsTo, AllByRecursion}
use Rattle.std.proofs.lemmas.List.Elements.{All-replicate, recursion_from_All}
use Rattle.documents.proofs.Runs.{promise}
use Rattle.pair.specs.Written.{written}
use Rattle.documents.proofs.Finding.{same_state}
use Rattle.pair.proofs.pair.Pair.open.Goals as goal

-- what calls give that all answer x and leave the closure as it was
all_given : {F X : Type 0} (R : F → X → F → Type 0) (f : F) (x : X) → ((y : X) (q : F) → R f y q → (q ≡ f) × (y ≡ x)) → (ys : List X) (last : F) → FoldsTo R f ys last → ys ≡ replicate (length ys) x
all_given R f x h [] last k = refl
all_given R f x h (y ∷ ys) last k =
    let s = h y k.0 k.1 in
    let e = all_given R f x h ys last (subst (λ q. FoldsTo R q ys last) s.0 k.2) in
    cc (s.1, e)

-- copies of x are of its build
all_copies : {X : Type 0} (fresh : X → X) (x : X) (n : ℕ) (xs : List X) → xs ≡ replicate n x → AllByRecursion (λ y. fresh y ≡ fresh x) xs
all_copies fresh x n xs e =
    let P : _ → Type 0 = λ y. fresh y ≡ fresh x in
    subst (AllByRecursion P) (sym e) (recursion_from_All P (replicate n x) (All-replicate P n x refl))

pub returns-clause-opened : goal.returns-clause-opened
returns-clause-opened g c = same_state _ _ (search rules) c.reset.ensures (ap written c.over.ensures.empty) c.over-2.ensures.empty c.over-3.ensures.empty

pub returns-clause-reset : goal.returns-clause-reset
returns-clause-reset g c =
    let h = c.fill_with.ensures.ran in
    let e = all_given _ _ c.reset.new.self (λ y q k. search rules) _ h.0 h.1 in
    c.over-3.ensures.slots ∙ e ∙ ap (λ n. replicate n c.reset.new.self) c.fill_with.ensures.len ∙ ap (replicate _) c.reset.ensures

pub returns-clause-blank : goal.returns-clause-blank
returns-clause-blank g c = ap g.R.Rows.columns.fresh c.reset.ensures ∙ (g.met.R.Rows.lawful.each 0 (omega arith)).resets _

pub returns-clause-builds : goal.returns-clause-builds
returns-clause-builds g c =
    let h = c.fill_with.ensures.ran in
    all_copies g.R.Rows.columns.fresh c.reset.new.self _ _ (c.over-3.ensures.slots ∙ all_given _ _ c.reset.new.self (λ y q k. search rules) _ h.0 h.1)

pub returns-clause-promise : goal.returns-clause-promise
returns-clause-promise g c = promise g.R.Rows.columns g.met.R.Rows.lawful _ _

-- The links that have no memory are lawful.
use Rattle.std.specs.Prelude.{◌≡◌, ℕ, zero, suc, ◌-◌, ◌%◌, ◌<◌, ◌≤◌, Bool, true, ◌&&◌, ◌⊎◌, Some, ◌==◌, nat_lt, refl}
use Rattle.std.proofs.Common.{sym, ap, subst, ◌∙◌, inl, inr, arith, pow_mono}
use Rattle.std.proofs.Math.Nat.{div-eq_of_lt}
use Rattle.std.proofs.lemmas.Bool.{leb-true, cases_lt}
use Rattle.std.specs.Int.{reverse_bits_onto}
use Rattle.std.proofs.lemmas.Bool.Decides.{Decides-below_and, Decides-and, Decides-eqb, Decides-ltb}
use Rattle.kinds.specs.declared.kind.Letter.TheVariants.{Choice}
use Rattle.kinds.specs.declared.kind.Kind.{Kind}
use Rattle.kinds.specs.declared.change.Change.{Change}
use Rattle.kinds.specs.declared.change.Change.TheVariants.{Keep, Set}
use Rattle.kinds.specs.Changes.{plain}
use Rattle.kinds.specs.Kinds.{blank, fits, of_kind, after, apply, fold}
use Rattle.links.specs.Laws.{Lawful, AgreeBy}
use Rattle.links.specs.Translations.{Related}
use Rattle.supplied.specs.Memoryless.{same, private, byte, reversed, bit, relabelled, label}
use Rattle.kinds.proofs.Bitwise.{same_bits}
use Rattle.kinds.proofs.Actions.{Action, stays, chosen, both, change, Small}
use Rattle.kinds.proofs.Folding.{applied, stays_within}
use Rattle.links.specs.Rules.{keep_of_kind, keep_applies, keep_folds, blank_keep}
use Rattle.links.specs.TranslationsLemmas.{Translates, action_translates, memoryless_lawful}
use Rattle.links.specs.Passing.{same_translates}

pub same_lawful : Lawful same
same_lawful =
    memoryless_lawful (λ s. s.kind) (λ s. s.kind) (λ s x y. x ≡ y) (λ s p. p) (λ s p. p) (λ s. refl)
    (λ s. same_translates s.kind (λ x y. x ≡ y) (λ x y e. e) (λ x. refl))
    (λ s. same_translates s.kind (λ y x. x ≡ y) (λ y x e. sym e) (λ x. refl))

hides : (k : Kind) → Translates k blank (λ x y. y ≡ 0) (λ p. Keep)
hides k = record {
  keeps = refl;
  fits = λ p e h. (refl, keep_of_kind blank Keep refl);
  moves = λ p x y v e r h. (y, keep_applies blank y r.1, r.2);
  folds = λ p q a b e f h i l r. cc (keep_folds blank, r);
}

unseen : (k : Kind) → Translates blank k (λ y x. y ≡ 0) (λ p. p)
unseen k = record {
  keeps = refl;
  fits = λ p e h. (e, keep_of_kind k p (blank_keep p h));
  moves = λ p y x v e r h.
      let p_is : p ≡ Keep = sym e ∙ blank_keep p (applied blank p y v h).0 in
      let v_is = (stays_within blank p y v h).1 in
      (x, ap (λ o. apply k o x) p_is ∙ keep_applies k x r.1, omega arith);
  folds = λ p q a b e f h i l r.
      let p_is : p ≡ Keep = sym e ∙ blank_keep p h in
      let q_is : q ≡ Keep = sym f ∙ blank_keep q i in
      let near = sym (ap (λ o. fold blank o q) p_is ∙ ap (fold blank Keep) q_is ∙ keep_folds blank) ∙ l in
      let far = sym (ap (λ o. fold k o q) p_is ∙ ap (fold k Keep) q_is ∙ keep_folds k) ∙ r in
      cc (near, far);
}

pub private_lawful : Lawful private
private_lawful = memoryless_lawful (λ s. s.kind) (λ s. blank) (λ s x y. y ≡ 0) (λ s p. Keep) (λ s p. p) (λ s. refl) (λ s. hides s.kind) (λ s. unseen s.kind)

-- ---- labels: one test, which is computed at each of the 256 numbers

abbrev undoes : ℕ → Bool
undoes x = reversed (reversed x) == x && nat_lt (reversed x) 256

abbrev all_undo : ℕ → Bool
all_undo zero = true
all_undo (suc n) = undoes n && all_undo n

pub reversed_twice : (x : ℕ) → x < 256 → (reversed (reversed x) ≡ x) × (reversed x < 256)
unfolding reverse_bits_onto
reversed_twice =
    (Decides-below_and undoes (λ x. (reversed (reversed x) ≡ x) × (reversed x < 256)) all_undo
    (λ x. Decides-and _ _ (Decides-eqb (reversed (reversed x)) x) (Decides-ltb (reversed x) 256)) refl (λ _. refl) 256).0 refl

-- each bit stands at the other end
abbrev mirrored : ℕ → ℕ → Bool
mirrored x i = bit i (reversed x) == bit (7 - i) x

abbrev all_mirrored : ℕ → ℕ → Bool
all_mirrored x zero = true
all_mirrored x (suc i) = mirrored x i && all_mirrored x i

abbrev all_reversed : ℕ → Bool
all_reversed zero = true
all_reversed (suc x) = all_mirrored x 8 && all_reversed x

reversed_bits : (x : ℕ) → x < 256 → (i : ℕ) → i < 8 → bit i (reversed x) ≡ bit (7 - i) x
unfolding reverse_bits_onto
reversed_bits =
    (Decides-below_and (λ x. all_mirrored x 8) (λ x. (i : ℕ) → i < 8 → bit i (reversed x) ≡ bit (7 - i) x) all_reversed
    (λ x. Decides-below_and (mirrored x) (λ i. bit i (reversed x) ≡ bit (7 - i) x) (all_mirrored x) (λ i. Decides-eqb (bit i (reversed x)) (bit (7 - i) x)) refl (λ _. refl) 8)
    refl (λ _. refl) 256).0 refl

-- there is no bit above the eighth
no_bit : (x k : ℕ) → x < 256 → 8 ≤ k → bit k x ≡ 0
no_bit x k h l = ap (λ n. n % 2) (div-eq_of_lt (omega (arith, pow_mono l)))

pub label_agrees : AgreeBy label (λ s x y. (i : ℕ) → i < 8 → bit i y ≡ bit (7 - i) x)
label_agrees s x y = (
  (λ a. (a.0, a.1, λ i h. ap (bit i) a.2 ∙ reversed_bits x (omega arith) i h)),
  (λ a. (a.0, a.1, same_bits y (reversed x) (λ k. go a.0 a.1 a.2 k (cases_lt k 8)))),
)
  where
    go : x ≤ 255 → y ≤ 255 → ((i : ℕ) → i < 8 → bit i y ≡ bit (7 - i) x) → (k : ℕ) → (k < 8) ⊎ (8 ≤ k) → bit k y ≡ bit k (reversed x)
    go p q r k (inl h) = r k h ∙ sym (reversed_bits x (omega arith) k h)
    go p q r k (inr h) = no_bit y k (omega arith) h ∙ sym (no_bit (reversed x) k (reversed_twice x (omega arith)).1 h)

reverse_action : Action Choice → Action Choice
reverse_action stays = stays
reverse_action (chosen w) = chosen (reversed w)

relabels : (relation : ℕ → ℕ → Type 0) → ((w : ℕ) → w < 256 → relation w (reversed w)) → Translates byte byte relation relabelled
unfolding reverse_action
relabels relation related = action_translates byte byte relation relabelled reverse_action refl turns small joins moves
  where
    turns : (a : Action Choice) → relabelled (change a) ≡ change (reverse_action a)
    turns stays = refl
    turns (chosen w) = refl

    small : (a : Action Choice) → Small 255 a → Small 255 (reverse_action a)
    small stays h = tt
    small (chosen w) h = omega (arith, (reversed_twice w (omega arith)).1)

    joins : (a b : Action Choice) → reverse_action (both a b) ≡ both (reverse_action a) (reverse_action b)
    joins stays stays = refl
    joins stays (chosen u) = refl
    joins (chosen w) stays = refl
    joins (chosen w) (chosen u) = refl

    moves : (a : Action Choice) (x y v : ℕ) → Small 255 a → Related byte byte relation x y → after 255 (change a) x ≡ Some v → (u : ℕ) × (after 255 (change (reverse_action a)) y ≡ Some u) × relation v u
    moves stays x y v h r p = (y, refl, subst (λ o. relation o y) (cc p) r.2)
    moves (chosen w) x y v h r p = (reversed w, refl, subst (λ o. relation o (reversed w)) (cc p) (related w (omega arith)))

-- a label that is set is one of the 256
pub label_small : (e : Change) (w : ℕ) → of_kind byte e ≡ true → plain e ≡ Set w → w ≤ 255
unfolding of_kind
label_small e w h p = leb-true w 255 (sym (ap (fits Choice 255) p) ∙ h)

pub label_lawful : Lawful label
unfolding reverse_bits_onto
label_lawful =
    memoryless_lawful (λ s. byte) (λ s. byte) (λ s x y. y ≡ reversed x) (λ s. relabelled) (λ s. relabelled) (λ s. refl)
    (λ s. relabels (λ x y. y ≡ reversed x) (λ w h. refl)) (λ s. relabels (λ y x. y ≡ reversed x) (λ w h. sym (reversed_twice w h).0))

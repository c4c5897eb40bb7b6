-- Carrying that changes no memory is lawful where the translation respects applying and folding.
use Rattle.std.specs.Prelude.{◌≡◌, ℕ, Bool, true, false, cond, Some, Ok, Err, ◌≢◌, refl}
use Rattle.std.proofs.Common.{sym, ap, subst, ◌∙◌, arith}
use Rattle.kinds.specs.declared.kind.Kind.{Kind}
use Rattle.kinds.specs.declared.change.Change.{Change}
use Rattle.kinds.specs.declared.change.Change.TheVariants.{Keep}
use Rattle.kinds.specs.Changes.{plain}
use Rattle.kinds.specs.Kinds.{of_kind, apply, fold}
use Rattle.links.specs.declared.refusal.CarryRefusal.{CarryRefusal}
use Rattle.links.specs.declared.refusal.CarryRefusal.TheVariants.{NotOfKind}
use Rattle.kinds.specs.declared.side.Side.TheVariants.{Left, Right}
use Rattle.links.specs.Laws.{sent, refused, Way, from, Sends, Lawful}
use Rattle.links.specs.Translations.{admitted, translated, Related, memoryless}
use Rattle.kinds.specs.Kinds.{after}
use Rattle.kinds.proofs.Actions.{plain_twice, Action, both, change, Small, change_plain}
use Rattle.kinds.proofs.Folding.{applied, applies, kind_action, action_kind, fold_action, stays_within}
use Rattle.links.specs.Rules.{of_kind_plain, apply_plain, fold_plain, keep_of_kind, folding}

pub never_sent : {S : Type 0} (n : CarryRefusal) (t : S) (f : Change) → refused n ≢ sent f t
never_sent n t f h = let z : ◌≡◌ {A = ℕ} 0 1 = cc h in omega arith

-- what `follows` says of an answer that is known
abbrev pub Follows : {S : Type 0} → Way S → Type 0
Follows {S} w = (s : S) (x y v : ℕ) (e : Change) → w.agrees s x y → apply (w.near s) e x ≡ Ok v → (t : S) × (f : Change) × (u : ℕ) × (w.carry s e ≡ sent f t) × (apply (w.far s) f y ≡ Ok u) × w.agrees t v u

pub follows_to : {S : Type 0} (w : Way S) → Follows w → (s t : S) (x y v : ℕ) (e f : Change) → w.agrees s x y → apply (w.near s) e x ≡ Ok v → w.carry s e ≡ sent f t → (u : ℕ) × (apply (w.far s) f y ≡ Ok u) × w.agrees t v u
follows_to w follows s t x y v e f a h c =
    let r = follows s x y v e a h in
    let t_is : r.0 ≡ t = cc (r.3, c) in
    let f_is : r.1 ≡ f = cc (r.3, c) in
    (r.2, subst (λ g. apply (w.far s) g y ≡ Ok r.2) f_is r.4, subst (λ o. w.agrees o v r.2) t_is r.5)

-- a change that is admitted is of the kind, and comes in its plain form
pub admitted_out : (k : Kind) (e p : Change) → Ok p ≡ admitted k e → (of_kind k e ≡ true) × (plain e ≡ p)
admitted_out k e p h = go (of_kind k e) refl h
  where
    go : (b : Bool) → of_kind k e ≡ b → Ok p ≡ cond b (Ok (plain e)) (Err NotOfKind) → (of_kind k e ≡ true) × (plain e ≡ p)
    go true q r = (q, cc r)
    go false q r = absurd (let z : ◌≡◌ {A = ℕ} 0 1 = cc r in omega arith)

-- A translation f of the plain changes of one kind into those of another, for values that are related.
pub record Translates (near far : Kind) (relation : ℕ → ℕ → Type 0) (f : Change → Change) : Type 0 where
  pub keeps : f Keep ≡ Keep
  pub fits : (p : Change) → plain p ≡ p → of_kind near p ≡ true → (plain (f p) ≡ f p) × (of_kind far (f p) ≡ true)
  pub moves : (p : Change) (x y v : ℕ) → plain p ≡ p → Related near far relation x y → apply near p x ≡ Ok v → (u : ℕ) × (apply far (f p) y ≡ Ok u) × relation v u
  pub folds : (p q a b : Change) → plain p ≡ p → plain q ≡ q → of_kind near p ≡ true → of_kind near q ≡ true → fold near p q ≡ Ok (Some a) → fold far (f p) (f q) ≡ Ok (Some b) → f a ≡ b

-- A translation that turns the actions of one letter into those of another, and two in turn into two in turn.
module _ (near far : Kind) (relation : ℕ → ℕ → Type 0) (f : Change → Change) (turn : Action near.letter → Action far.letter)
    (keeps : f Keep ≡ Keep) (turns : (a : Action near.letter) → f (change a) ≡ change (turn a)) (small : (a : Action near.letter) → Small near.limit a → Small far.limit (turn a))
    (joins : (a b : Action near.letter) → turn (both a b) ≡ both (turn a) (turn b))
    (moves : (a : Action near.letter) (x y v : ℕ) → Small near.limit a → Related near far relation x y → after near.limit (change a) x ≡ Some v → (u : ℕ) × (after far.limit (change (turn a)) y ≡ Some u) × relation v u) where
  turned : (p : Change) (a : Action near.letter) → plain p ≡ p → plain p ≡ change a → (f p ≡ change (turn a)) × (plain (f p) ≡ change (turn a))
  turned p a e h = let is = ap f (sym e ∙ h) ∙ turns a in (is, ap plain is ∙ change_plain (turn a))

  fitting : (p : Change) → plain p ≡ p → of_kind near p ≡ true → (plain (f p) ≡ f p) × (of_kind far (f p) ≡ true)
  fitting p e h =
      let a = kind_action near p h in
      let t = turned p a.0 e a.2 in
      (t.1 ∙ sym t.0, ap (of_kind far) t.0 ∙ action_kind far (turn a.0) (small a.0 a.1))

  pub action_translates : Translates near far relation f
  action_translates = record {
    keeps = keeps;
    fits = fitting;
    moves = λ p x y v e r h.
        let o = applied near p x v h in
        let a = kind_action near p o.0 in
        let m = moves a.0 x y v a.1 r (sym (ap (λ q. after near.limit q x) a.2) ∙ o.2) in
        (m.0, applies far (f p) y m.0 (fitting p e o.0).1 r.1 (ap (λ q. after far.limit q y) (turned p a.0 e a.2).1 ∙ m.1), m.2);
    folds = λ p q c d e g h i l r.
        let a = kind_action near p h in
        let b = kind_action near q i in
        let near_is = (fold_action near p q c a.0 b.0 a.1 b.1 a.2 b.2 l).0 in
        let far_is = (fold_action far (f p) (f q) d (turn a.0) (turn b.0) (small a.0 a.1) (small b.0 b.1) (turned p a.0 e a.2).1 (turned q b.0 g b.2).1 r).0 in
        ap f near_is ∙ turns (both a.0 b.0) ∙ ap change (joins a.0 b.0) ∙ sym far_is;
  }

module _ {S : Type 0} (k : Kind) (f : Change → Change) (s : S) (e : Change) where
  pub translated_at : of_kind k e ≡ true → translated k f s e ≡ sent (f (plain e)) s
  translated_at h = ap (λ b. cond b (sent (f (plain e)) s) (refused NotOfKind)) h

  pub translated_not : of_kind k e ≡ false → translated k f s e ≡ refused NotOfKind
  translated_not h = ap (λ b. cond b (sent (f (plain e)) s) (refused NotOfKind)) h

  pub translated_out : (g : Change) (t : S) → translated k f s e ≡ sent g t → (of_kind k e ≡ true) × (f (plain e) ≡ g) × (s ≡ t)
  translated_out g t h = go (of_kind k e) refl h
    where
      go : (b : Bool) → of_kind k e ≡ b → cond b (sent (f (plain e)) s) (refused NotOfKind) ≡ sent g t → (of_kind k e ≡ true) × (f (plain e) ≡ g) × (s ≡ t)
      go true p r = (p, cc r, cc r)
      go false p r = absurd (never_sent NotOfKind t g r)

-- One direction whose values agree where they are related.
module _ {S : Type 0} (near far : S → Kind) (fresh : S → S) (agrees : S → ℕ → ℕ → Type 0) (relation : S → ℕ → ℕ → Type 0) (f : S → Change → Change)
    (apart : (s : S) (x y : ℕ) → agrees s x y → Related (near s) (far s) (relation s) x y) (join : (s : S) (x y : ℕ) → Related (near s) (far s) (relation s) x y → agrees s x y)
    (law : (s : S) → Translates (near s) (far s) (relation s) (f s)) where
  abbrev way : Way S
  way = record { near = near; far = far; fresh = fresh; agrees = agrees; carry = λ s. translated (near s) (f s) s }

  moves : (s : S) (x y v : ℕ) (e : Change) → agrees s x y → apply (near s) e x ≡ Ok v → (u : ℕ) × (apply (far s) (f s (plain e)) y ≡ Ok u) × agrees s v u
  moves s x y v e a h =
      let m = (law s).moves (plain e) x y v (plain_twice e) (apart s x y a) (apply_plain (near s) e x ∙ h) in
      (m.0, m.1, join s v m.0 ((stays_within (near s) e x v h).1, (stays_within (far s) (f s (plain e)) y m.0 m.1).1, m.2))

  folds_at : (s : S) (x y v z : ℕ) (e g : Change) → agrees s x y → apply (near s) e x ≡ Ok v → apply (near s) g v ≡ Ok z →
      (a b : Change) × (fold (near s) e g ≡ Ok (Some a)) × (fold (far s) (f s (plain e)) (f s (plain g)) ≡ Ok (Some b)) × (translated (near s) (f s) s a ≡ sent b s)
  folds_at s x y v z e g a p q =
      let m = moves s x y v e a p in
      let n = moves s v m.0 z g m.2 q in
      let l = folding (near s) e g x v z p q in
      let r = folding (far s) (f s (plain e)) (f s (plain g)) y m.0 n.0 m.1 n.1 in
      let e_kind = of_kind_plain (near s) e ∙ (applied (near s) e x v p).0 in
      let g_kind = of_kind_plain (near s) g ∙ (applied (near s) g v z q).0 in
      let same = (law s).folds (plain e) (plain g) l.0 r.0 (plain_twice e) (plain_twice g) e_kind g_kind (fold_plain (near s) e g ∙ l.1) r.1 in
      (l.0, r.0, l.1, r.1, translated_at (near s) (f s) s l.0 l.2 ∙ ap (λ o. sent (f s o) s) l.3 ∙ ap (λ o. sent o s) same)

  pub translation_sends : Sends way
  translation_sends = record {
    follows = λ s x y v e a h.
        let m = moves s x y v e a h in
        (s, f s (plain e), m.0, translated_at (near s) (f s) s e (applied (near s) e x v h).0, m.1, m.2);
    still = λ s e h. translated_at (near s) (f s) s e (keep_of_kind (near s) e h) ∙ ap (λ p. sent (f s p) s) h ∙ ap (λ p. sent p s) (law s).keeps;
    folds = λ s t u x y v z e g d h a p q i j.
        let l = folds_at s x y v z e g a p q in
        let m = translated_out (near s) (f s) s e d t i in
        let n = translated_out (near t) (f t) t g h u j in
        let far_fold = subst (λ o. fold (far s) (f s (plain e)) (f o (plain g)) ≡ Ok (Some l.1)) m.2 l.3 in
        (l.0, l.1, l.2, sym (ap (λ o. fold (far s) o h) m.1) ∙ sym (ap (fold (far s) (f s (plain e))) n.1) ∙ far_fold, l.4 ∙ ap (sent l.1) (m.2 ∙ n.2));
    refuses = λ s e h. translated_not (near s) (f s) s e h;
    answers = λ s t e g h.
        let m = translated_out (near s) (f s) s e g t h in
        let k = (law s).fits (plain e) (plain_twice e) (of_kind_plain (near s) e ∙ m.0) in
        (subst (λ o. plain o ≡ o) m.1 k.0, subst (λ o. of_kind (far s) o ≡ true) m.1 k.1);
    keeps = λ s t e g h. ap fresh (sym (translated_out (near s) (f s) s e g t h).2);
  }

-- A link without memory is lawful where each of its translations is.
module _ {S : Type 0} (left right : S → Kind) (relation : S → ℕ → ℕ → Type 0) (to_right to_left : S → Change → Change)
    (start : (s : S) → relation s 0 0)
    (rightward : (s : S) → Translates (left s) (right s) (relation s) (to_right s))
    (leftward : (s : S) → Translates (right s) (left s) (λ y x. relation s x y) (to_left s)) where
  pub memoryless_lawful : Lawful (memoryless left right relation to_right to_left)
  memoryless_lawful = record {
    starts = λ s. (omega arith, omega arith, start s);
    bounded = λ s x y a. (a.0, a.1);
    resets = λ s. refl;
    kinds = λ s t h. (ap left h, ap right h);
    sends = λ side. elim side as (λ o. Sends (from o (memoryless left right relation to_right to_left))) [
      | Left ↦ translation_sends left right (λ s. s) (λ s. Related (left s) (right s) (relation s)) relation to_right (λ s x y a. a) (λ s x y a. a) rightward
      | Right ↦ translation_sends right left (λ s. s) (λ s y x. Related (left s) (right s) (relation s) x y) (λ s y x. relation s x y) to_left (λ s y x a. (a.1, a.0, a.2)) (λ s y x a. (a.1, a.0, a.2)) leftward
    ];
  }

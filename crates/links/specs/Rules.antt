-- What the rules of kinds come to for a carried change.
use Rattle.std.specs.Prelude.{◌≡◌, ℕ, ◌≤◌, true, false, ◌&&◌, Some, Ok, nat_le, refl}
use Rattle.std.proofs.Common.{ap, ap₂, arith}
use Rattle.kinds.specs.declared.kind.Kind.{Kind}
use Rattle.kinds.specs.declared.change.Change.{Change}
use Rattle.kinds.specs.declared.change.Change.TheVariants.{Keep, Add, Set, Mask}
use Rattle.kinds.specs.declared.refusal.Refusal.TheVariants.{NotOfKind, DoesNotApply}
use Rattle.kinds.specs.Answers.{◌>>=◌, test, need}
use Rattle.kinds.specs.Changes.{plain}
use Rattle.kinds.specs.Kinds.{blank, fits, after, folded, of_kind, apply, fold}
use Rattle.kinds.proofs.Actions.{plain_twice}
use Rattle.kinds.proofs.Folding.{folds_act, folds_plain, keeps}

never : false ≡ true → ⊥
never h = let z : ◌≡◌ {A = ℕ} 0 1 = cc h in omega arith

-- ---- a change and its plain form do the same

pub of_kind_plain : (k : Kind) (e : Change) → of_kind k (plain e) ≡ of_kind k e
unfolding of_kind
of_kind_plain k e = ap (fits k.letter k.limit) (plain_twice e)

pub apply_plain : (k : Kind) (e : Change) (x : ℕ) → apply k (plain e) x ≡ apply k e x
unfolding apply of_kind
apply_plain k e x =
    ap (λ (p : Change). test (fits k.letter k.limit p) NotOfKind >>= (λ _. test (nat_le x k.limit) DoesNotApply >>= (λ _. need (after k.limit p x) DoesNotApply))) (plain_twice e)

pub fold_plain : (k : Kind) (e f : Change) → fold k (plain e) (plain f) ≡ fold k e f
unfolding fold of_kind
fold_plain k e f =
    ap₂ (λ (p q : Change). test (fits k.letter k.limit p && fits k.letter k.limit q) NotOfKind >>= (λ _. Ok (folded k.limit p q))) (plain_twice e) (plain_twice f)

-- ---- keep

pub keep_of_kind : (k : Kind) (e : Change) → plain e ≡ Keep → of_kind k e ≡ true
keep_of_kind k e h = (keeps e h k).0

pub keep_applies : (k : Kind) (x : ℕ) → x ≤ k.limit → apply k Keep x ≡ Ok x
keep_applies k x h = (keeps Keep refl k).1 x h

pub keep_folds : (k : Kind) → fold k Keep Keep ≡ Ok (Some Keep)
unfolding fold of_kind
keep_folds k = refl

-- of the blank kind there is keep alone
pub blank_keep : (e : Change) → of_kind blank e ≡ true → plain e ≡ Keep
unfolding of_kind
blank_keep e h = go (plain e) h
  where
    go : (p : Change) → fits blank.letter 0 p ≡ true → p ≡ Keep
    go Keep t = refl
    go (Add d) t = absurd (never t)
    go (Set w) t = absurd (never t)
    go (Mask m s) t = absurd (never t)

-- ---- the fold of two changes that apply in turn

pub folding : (k : Kind) (e f : Change) (x v z : ℕ) → apply k e x ≡ Ok v → apply k f v ≡ Ok z → (a : Change) × (fold k e f ≡ Ok (Some a)) × (of_kind k a ≡ true) × (plain a ≡ a)
folding k e f x v z p q = let r = folds_act k e f x v z p q in (r.0, r.1, r.2, (folds_plain k e f r.0 r.1).0)

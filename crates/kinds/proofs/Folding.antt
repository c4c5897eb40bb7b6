-- What an apply and a fold that answer say, and the laws of kinds from those of their actions.
use Rattle.std.proofs.Common.{◌≡◌, ℕ, ◌≤◌, Bool, true, false, cond, ◌&&◌, leb, ◌+ℤ◌, nat_abs, Some, None, Ok, Option, Result, sym, refl, ap, ◌∙◌, subst, ap₂, arith}
use Rattle.std.proofs.lemmas.Bool.{le-leb, lt-leb}
use Rattle.std.proofs.lemmas.Bool.Decides.{nat_tests}
use Rattle.kinds.specs.declared.kind.Kind.{Kind}
use Rattle.kinds.specs.declared.change.Change.{Change}
use Rattle.kinds.specs.declared.change.Change.TheVariants.{Keep, Add}
use Rattle.kinds.specs.declared.refusal.Refusal.{Refusal}
use Rattle.kinds.specs.declared.refusal.Refusal.TheVariants.{NotOfKind, DoesNotApply}
use Rattle.kinds.specs.Answers.{◌>>=◌, test, need}
use Rattle.kinds.specs.Changes.{plain}
use Rattle.kinds.specs.Kinds.{fits, of_kind, after, apply, folded, fold}
use Rattle.kinds.specs.Laws.{StandsFor, FoldsAct, StaysWithin, FoldsAssociate, TooFar, AbsentTooFar, FoldsPlain, KeepFoldsAway, Keeps}
use Rattle.kinds.proofs.Actions.{plain_twice, Action, both, change, Small, both_assoc, action_of, change_plain, change_fits, folded_some, folded_acts, after_within, folded_add, folded_none, small_add, plain_is_add, folded_keep}
use Rattle.kinds.proofs.Clash.{clash}

-- ---- what an answer says

-- a change that applies is of the kind, and the value is within the limit
pub applied : (k : Kind) (e : Change) (v w : ℕ) → apply k e v ≡ Ok w → (of_kind k e ≡ true) × (v ≤ k.limit) × (after k.limit (plain e) v ≡ Some w)
unfolding apply
applied k e v w h = go (of_kind k e) (leb v k.limit) (after k.limit (plain e) v) refl refl h
  where
    go : (b l : Bool) (o : Option ℕ) → of_kind k e ≡ b → leb v k.limit ≡ l → (test b NotOfKind >>= (λ _. test l DoesNotApply >>= (λ _. need o DoesNotApply))) ≡ Ok w → (of_kind k e ≡ true) × (v ≤ k.limit) × (o ≡ Some w)
    go true true (Some u) p q r = (p, grind (arith, nat_tests), cc r)
    go true true None p q r = clash (cc r)
    go true false o p q r = clash (cc r)
    go false l o p q r = clash (cc r)

pub applies : (k : Kind) (e : Change) (v w : ℕ) → of_kind k e ≡ true → v ≤ k.limit → after k.limit (plain e) v ≡ Some w → apply k e v ≡ Ok w
unfolding apply
applies k e v w h i p = rw (h, le-leb v k.limit i, p) refl

-- a fold that answers is of two changes of the kind
pub fold_of : (k : Kind) (e f : Change) (o : Option Change) → fold k e f ≡ Ok o → (of_kind k e ≡ true) × (of_kind k f ≡ true) × (folded k.limit (plain e) (plain f) ≡ o)
unfolding fold
fold_of k e f o h = go (of_kind k e) (of_kind k f) (folded k.limit (plain e) (plain f)) refl refl h
  where
    go : (b c : Bool) (u : Option Change) → of_kind k e ≡ b → of_kind k f ≡ c → (test (b && c) NotOfKind >>= (λ _. Ok u)) ≡ Ok o → (of_kind k e ≡ true) × (of_kind k f ≡ true) × (u ≡ o)
    go true true u p q r = (p, q, cc r)
    go true false u p q r = clash (cc r)
    go false c u p q r = clash (cc r)

pub fold_is : (k : Kind) (e f : Change) → of_kind k e ≡ true → of_kind k f ≡ true → fold k e f ≡ Ok (folded k.limit (plain e) (plain f))
unfolding fold
fold_is k e f h i = rw (h, i) refl

-- ---- changes of a kind as actions

-- a change of the kind, in its plain form, is an action of its letter
pub kind_action : (k : Kind) (e : Change) → of_kind k e ≡ true → (a : Action k.letter) × Small k.limit a × (plain e ≡ change a)
unfolding of_kind
kind_action k e h = action_of k.letter k.limit (plain e) h (plain_twice e)

pub action_kind : (k : Kind) (a : Action k.letter) → Small k.limit a → of_kind k (change a) ≡ true
unfolding of_kind
action_kind k a h = ap (fits k.letter k.limit) (change_plain a) ∙ change_fits k.letter k.limit a h

-- the fold of two changes, by their actions
pub fold_action : (k : Kind) (e f g : Change) (a b : Action k.letter) → Small k.limit a → Small k.limit b → plain e ≡ change a → plain f ≡ change b → fold k e f ≡ Ok (Some g) → (g ≡ change (both a b)) × (plain g ≡ change (both a b)) × Small k.limit (both a b)
fold_action k e f g a b h i p q r =
    let o = fold_of k e f (Some g) r in
    let s = folded_some k.letter k.limit k.proper a b h i g (sym (ap₂ (folded k.limit) p q) ∙ o.2) in
    (s.0, ap plain s.0 ∙ change_plain (both a b), s.1)

-- ---- the laws

pub folds_act : FoldsAct
folds_act k e f v v1 v2 h i =
    let n = k.limit in
    let o = applied k e v v1 h in
    let u = applied k f v1 v2 i in
    let p = kind_action k e o.0 in
    let q = kind_action k f u.0 in
    let r = folded_acts k.letter n p.0 q.0 p.1 q.1 v v1 v2 o.1 (sym (ap (λ x. after n x v) p.2) ∙ o.2) (sym (ap (λ x. after n x v1) q.2) ∙ u.2) in
    let g = change (both p.0 q.0) in
    let present : folded n (plain e) (plain f) ≡ Some g = ap₂ (folded n) p.2 q.2 ∙ r.0 in
    let small = (folded_some k.letter n k.proper p.0 q.0 p.1 q.1 g r.0).1 in
    let of = action_kind k (both p.0 q.0) small in (
      g,
      fold_is k e f o.0 u.0 ∙ ap Ok present,
      of,
      applies k g v v2 of o.1 (ap (λ x. after n x v) (change_plain (both p.0 q.0)) ∙ r.1),
    )

pub stays_within : StaysWithin
stays_within k e v w h =
    let o = applied k e v w h in
    let p = kind_action k e o.0 in
    (o.1, after_within k.letter k.limit k.proper p.0 p.1 v w o.1 (sym (ap (λ x. after k.limit x v) p.2) ∙ o.2))

pub folds_plain : FoldsPlain
folds_plain k e f g h =
    let o = fold_of k e f (Some g) h in
    let p = kind_action k e o.0 in
    let q = kind_action k f o.1 in
    let r = fold_action k e f g p.0 q.0 p.1 q.1 p.2 q.2 h in
    (r.1 ∙ sym r.0, ap (of_kind k) r.0 ∙ action_kind k (both p.0 q.0) r.2)

pub folds_associate : FoldsAssociate
folds_associate k e f g ef fg x y h i j l =
    let p = kind_action k e (fold_of k e f (Some ef) h).0 in
    let q = kind_action k f (fold_of k e f (Some ef) h).1 in
    let r = kind_action k g (fold_of k f g (Some fg) i).1 in
    let a = p.0 in
    let b = q.0 in
    let c = r.0 in
    let ab = fold_action k e f ef a b p.1 q.1 p.2 q.2 h in
    let bc = fold_action k f g fg b c q.1 r.1 q.2 r.2 i in
    let left = fold_action k ef g x (both a b) c ab.2 r.1 ab.1 r.2 j in
    let right = fold_action k e fg y a (both b c) p.1 bc.2 p.2 bc.1 l in
    left.0 ∙ ap change (both_assoc a b c) ∙ sym right.0

pub absent_too_far : AbsentTooFar
unfolding of_kind
absent_too_far k e f h i = (far, absent)
  where
    far : fold k e f ≡ Ok None → TooFar k.limit e f
    far j =
        let p = kind_action k e h in
        let q = kind_action k f i in
        let n = k.limit in
        let t = folded_none k.letter n p.0 q.0 p.1 q.1 (sym (ap₂ (folded n) p.2 q.2) ∙ (fold_of k e f None j).2) in
        (t.0, t.1, plain_is_add e t.0 (p.2 ∙ t.2), plain_is_add f t.1 (q.2 ∙ t.3), t.4)

    absent : TooFar k.limit e f → fold k e f ≡ Ok None
    absent t =
        let n = k.limit in
        let c = t.0 in
        let d = t.1 in
        let small_c = small_add k.letter n c (sym (ap (of_kind k) t.2) ∙ h) in
        let small_d = small_add k.letter n d (sym (ap (of_kind k) t.3) ∙ i) in
        let far : leb (nat_abs (c +ℤ d)) n ≡ false = lt-leb (nat_abs (c +ℤ d)) n t.4 in
        fold_is k e f h i ∙ ap Ok (ap₂ (λ x y. folded n (plain x) (plain y)) t.2 t.3 ∙ folded_add n c d small_c small_d ∙ ap (λ b. cond b (Some (plain (Add (c +ℤ d)))) None) far)

pub keep_folds_away : KeepFoldsAway
unfolding of_kind
keep_folds_away k e h = (fold_is k Keep e refl h, fold_is k e Keep h refl ∙ ap Ok (folded_keep k.limit (plain e)))

-- what has keep as its plain form keeps
pub keeps : (e : Change) → plain e ≡ Keep → Keeps e
unfolding of_kind
keeps e p k =
    let of : of_kind k e ≡ true = ap (fits k.letter k.limit) p in
    (of, λ v h. applies k e v v of h (ap (λ x. after k.limit x v) p))

-- what the fold answers stands for the two changes
pub stands_for : (k : Kind) (e f : Change) (answer : Result (Option Change) Refusal) → answer ≡ fold k e f → StandsFor k e f answer
stands_for k e f answer h = subst (StandsFor k e f) (sym h) (folds_act k e f)

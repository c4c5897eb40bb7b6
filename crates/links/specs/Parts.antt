-- A link that is a part of a larger value carries for the whole.
use Rattle.std.specs.Prelude.{◌≡◌}
use Rattle.std.proofs.Common.{sym, ap, subst, ◌∙◌}
use Rattle.kinds.specs.declared.change.Change.{Change}
use Rattle.kinds.specs.declared.change.Change.TheVariants.{Keep}
use Rattle.links.specs.Laws.{Carried, sent, refused, Way, Sends}
use Rattle.links.specs.Layers.{put}
use Rattle.links.specs.TranslationsLemmas.{never_sent}

-- an answer of the whole came of an answer of the part
pub put_out : {S R : Type 0} (set : S → R) (c : Carried S) (f : Change) (t : R) → put set c ≡ sent f t → (s : S) × (c ≡ sent f s) × (set s ≡ t)
put_out set (sent g s) f t h = (s, ap (λ o. sent o s) (cc h), cc h)
put_out set (refused n) f t h = absurd (never_sent n t f h)

-- a direction of the part, as one of the whole
abbrev pub whole : {S R : Type 0} → (R → S) → (R → S → R) → (R → R) → Way S → Way R
whole get set fresh w = record {
  near = λ r. w.near (get r);
  far = λ r. w.far (get r);
  fresh = fresh;
  agrees = λ r. w.agrees (get r);
  carry = λ r e. put (set r) (w.carry (get r) e);
}

module _ {S R : Type 0} (get : R → S) (set : R → S → R) (fresh : R → R) (w : Way S) (law : Sends w)
    (get_set : (r : R) (s : S) → get (set r s) ≡ s) (set_get : (r : R) → set r (get r) ≡ r) (set-set : (r : R) (s t : S) → set (set r s) t ≡ set r t)
    (fresh_set : (r : R) (s : S) → w.fresh s ≡ w.fresh (get r) → fresh (set r s) ≡ fresh r) where
  came : (r t : R) (e f : Change) → put (set r) (w.carry (get r) e) ≡ sent f t → (w.carry (get r) e ≡ sent f (get t)) × (set r (get t) ≡ t)
  came r t e f h =
      let o = put_out (set r) (w.carry (get r) e) f t h in
      let is : o.0 ≡ get t = sym (get_set r o.0) ∙ ap get o.2 in
      (o.1 ∙ ap (sent f) is, ap (set r) (sym is) ∙ o.2)

  pub whole_sends : Sends (whole get set fresh w)
  whole_sends = record {
    follows = λ r x y v e a h.
        let l = law.follows (get r) x y v e a h in
        (set r l.0, l.1, l.2, ap (put (set r)) l.3, l.4, subst (λ s. w.agrees s v l.2) (sym (get_set r l.0)) l.5);
    still = λ r e h. ap (put (set r)) (law.still (get r) e h) ∙ ap (sent Keep) (set_get r);
    folds = λ r t u x y v z e f g h a p q i j.
        let m = came r t e g i in
        let n = came t u f h j in
        let l = law.folds (get r) (get t) (get u) x y v z e f g h a p q m.0 n.0 in
        let u_is : set r (get u) ≡ u = sym (set-set r (get t) (get u)) ∙ ap (λ o. set o (get u)) m.1 ∙ n.1 in
        (l.0, l.1, l.2, l.3, ap (put (set r)) l.4 ∙ ap (sent l.1) u_is);
    refuses = λ r e h. ap (put (set r)) (law.refuses (get r) e h);
    answers = λ r t e f h. law.answers (get r) (get t) e f (came r t e f h).0;
    keeps = λ r t e f h. let m = came r t e f h in sym (ap fresh m.1) ∙ fresh_set r (get t) (law.keeps (get r) (get t) e f m.0);
  }

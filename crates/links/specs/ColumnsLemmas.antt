-- Four lawful links side by side are a lawful row.
use Rattle.std.specs.Prelude.{◌≡◌, ℕ, zero, suc, ◌<◌, ◌≤◌, ◌≢◌, refl}
use Rattle.std.proofs.Common.{sym, ap, subst, ◌∙◌, arith}
use Rattle.std.proofs.lemmas.Bool.Decides.{nat_tests}
use Rattle.kinds.specs.declared.change.Change.{Change}
use Rattle.links.specs.declared.row.Row.{Row}
use Rattle.kinds.specs.declared.side.Side.{Side}
use Rattle.kinds.specs.declared.side.Side.TheVariants.{Left, Right}
use Rattle.links.specs.declared.refusal.CarryRefusal.TheVariants.{NotOfKind}
use Rattle.links.specs.Laws.{sent, refused, Lens, from, Sends, Lawful}
use Rattle.links.specs.Layers.{put}
use Rattle.links.specs.Columns.{Columns, column, column_way, LawfulRow, InColumn, row, four}
use Rattle.links.specs.TranslationsLemmas.{never_sent}
use Rattle.links.specs.Parts.{put_out, whole_sends}

-- a part of a row, as a link of the whole row
abbrev part : {S R : Type 0} → (R → S) → (R → S → R) → (R → R) → Lens S → Lens R
part get set fresh l = record {
  left = λ r. l.left (get r);
  right = λ r. l.right (get r);
  fresh = fresh;
  agrees = λ r. l.agrees (get r);
  rightward = λ r e. put (set r) (l.rightward (get r) e);
  leftward = λ r e. put (set r) (l.leftward (get r) e);
}

part_lawful : {S R : Type 0} (get : R → S) (set : R → S → R) (fresh : R → R) (l : Lens S) → Lawful l →
    ((r : R) (s : S) → get (set r s) ≡ s) → ((r : R) → set r (get r) ≡ r) → ((r : R) (s t : S) → set (set r s) t ≡ set r t) →
    ((r : R) (s : S) → l.fresh s ≡ l.fresh (get r) → fresh (set r s) ≡ fresh r) → ((r : R) → get (fresh r) ≡ l.fresh (get r)) → ((r : R) → fresh (fresh r) ≡ fresh r) → Lawful (part get set fresh l)
part_lawful get set fresh l law get_set set_get set-set fresh_set get_fresh resets = record {
  starts = λ r. subst (λ s. l.agrees s 0 0) (sym (get_fresh r)) (law.starts (get r));
  bounded = λ r x y a. law.bounded (get r) x y a;
  resets = resets;
  kinds = λ r t h. law.kinds (get r) (get t) (sym (get_fresh r) ∙ ap get h ∙ get_fresh t);
  sends = λ side. elim side as (λ o. Sends (from o (part get set fresh l))) [
    | Left ↦ whole_sends get set fresh (from Left l) (law.sends Left) get_set set_get set-set fresh_set
    | Right ↦ whole_sends get set fresh (from Right l) (law.sends Right) get_set set_get set-set fresh_set
  ];
}

module _ {A B C D : Type 0} (k : Lens A) (k_law : Lawful k) (l : Lens B) (l_law : Lawful l) (m : Lens C) (m_law : Lawful m) (n : Lens D) (n_law : Lawful n) where
  abbrev links : Columns (Row A B C D)
  links = four k l m n

  resets : (r : Row A B C D) → links.fresh (links.fresh r) ≡ links.fresh r
  resets r = λ i. row (k_law.resets r.first i) (l_law.resets r.second i) (m_law.resets r.third i) (n_law.resets r.fourth i)

  each : (c : ℕ) → c < 4 → Lawful (column links c)
  each zero h =
      part_lawful (λ (r : Row A B C D). r.first) (λ r s. row s r.second r.third r.fourth) links.fresh k k_law (λ r s. refl) (λ r. refl) (λ r s t. refl)
      (λ r s h. ap (λ o. row o (l.fresh r.second) (m.fresh r.third) (n.fresh r.fourth)) h) (λ r. refl) resets
  each (suc zero) h =
      part_lawful (λ (r : Row A B C D). r.second) (λ r s. row r.first s r.third r.fourth) links.fresh l l_law (λ r s. refl) (λ r. refl) (λ r s t. refl)
      (λ r s h. ap (λ o. row (k.fresh r.first) o (m.fresh r.third) (n.fresh r.fourth)) h) (λ r. refl) resets
  each (suc (suc zero)) h =
      part_lawful (λ (r : Row A B C D). r.third) (λ r s. row r.first r.second s r.fourth) links.fresh m m_law (λ r s. refl) (λ r. refl) (λ r s t. refl)
      (λ r s h. ap (λ o. row (k.fresh r.first) (l.fresh r.second) o (n.fresh r.fourth)) h) (λ r. refl) resets
  each (suc (suc (suc zero))) h =
      part_lawful (λ (r : Row A B C D). r.fourth) (λ r s. row r.first r.second r.third s) links.fresh n n_law (λ r s. refl) (λ r. refl) (λ r s t. refl)
      (λ r s h. ap (row (k.fresh r.first) (l.fresh r.second) (m.fresh r.third)) h) (λ r. refl) resets
  each (suc (suc (suc (suc c)))) h = absurd (omega arith)

  beyond : (side : Side) (c : ℕ) (r : Row A B C D) (e : Change) → 4 ≤ c → links.carry side c r e ≡ refused NotOfKind
  beyond side c r e h = grind (arith, nat_tests)

  -- what agrees in a column, by the four links
  abbrev Agree : ℕ → A → B → C → D → ℕ → ℕ → Type 0
  Agree c s0 s1 s2 s3 x y = InColumn c (k.agrees s0 x y) (l.agrees s1 x y) (m.agrees s2 x y) (n.agrees s3 x y) ((x ≡ 0) × (y ≡ 0))

  other_0 : (b : ℕ) (s t : A) (s1 : B) (s2 : C) (s3 : D) (x y : ℕ) → (b ≢ 0) → Agree b s s1 s2 s3 x y → Agree b t s1 s2 s3 x y
  other_0 zero s t s1 s2 s3 x y ne a = absurd (ne refl)
  other_0 (suc zero) s t s1 s2 s3 x y ne a = a
  other_0 (suc (suc zero)) s t s1 s2 s3 x y ne a = a
  other_0 (suc (suc (suc zero))) s t s1 s2 s3 x y ne a = a
  other_0 (suc (suc (suc (suc b)))) s t s1 s2 s3 x y ne a = a

  other_1 : (b : ℕ) (s0 : A) (s t : B) (s2 : C) (s3 : D) (x y : ℕ) → (b ≢ 1) → Agree b s0 s s2 s3 x y → Agree b s0 t s2 s3 x y
  other_1 zero s0 s t s2 s3 x y ne a = a
  other_1 (suc zero) s0 s t s2 s3 x y ne a = absurd (ne refl)
  other_1 (suc (suc zero)) s0 s t s2 s3 x y ne a = a
  other_1 (suc (suc (suc zero))) s0 s t s2 s3 x y ne a = a
  other_1 (suc (suc (suc (suc b)))) s0 s t s2 s3 x y ne a = a

  other_2 : (b : ℕ) (s0 : A) (s1 : B) (s t : C) (s3 : D) (x y : ℕ) → (b ≢ 2) → Agree b s0 s1 s s3 x y → Agree b s0 s1 t s3 x y
  other_2 zero s0 s1 s t s3 x y ne a = a
  other_2 (suc zero) s0 s1 s t s3 x y ne a = a
  other_2 (suc (suc zero)) s0 s1 s t s3 x y ne a = absurd (ne refl)
  other_2 (suc (suc (suc zero))) s0 s1 s t s3 x y ne a = a
  other_2 (suc (suc (suc (suc b)))) s0 s1 s t s3 x y ne a = a

  other_3 : (b : ℕ) (s0 : A) (s1 : B) (s2 : C) (s t : D) (x y : ℕ) → (b ≢ 3) → Agree b s0 s1 s2 s x y → Agree b s0 s1 s2 t x y
  other_3 zero s0 s1 s2 s t x y ne a = a
  other_3 (suc zero) s0 s1 s2 s t x y ne a = a
  other_3 (suc (suc zero)) s0 s1 s2 s t x y ne a = a
  other_3 (suc (suc (suc zero))) s0 s1 s2 s t x y ne a = absurd (ne refl)
  other_3 (suc (suc (suc (suc b)))) s0 s1 s2 s t x y ne a = a

  apart : (side : Side) (b c : ℕ) (s t : Row A B C D) (e f : Change) (x y : ℕ) → (b ≢ c) → links.carry side c s e ≡ sent f t → links.agrees b s x y → links.agrees b t x y
  apart side b zero s t e f x y ne h a =
      let o = put_out (λ p. row p s.second s.third s.fourth) ((from side k).carry s.first e) f t h in
      subst (λ r. links.agrees b r x y) o.2 (other_0 b s.first o.0 s.second s.third s.fourth x y ne a)
  apart side b (suc zero) s t e f x y ne h a =
      let o = put_out (λ p. row s.first p s.third s.fourth) ((from side l).carry s.second e) f t h in
      subst (λ r. links.agrees b r x y) o.2 (other_1 b s.first s.second o.0 s.third s.fourth x y ne a)
  apart side b (suc (suc zero)) s t e f x y ne h a =
      let o = put_out (λ p. row s.first s.second p s.fourth) ((from side m).carry s.third e) f t h in
      subst (λ r. links.agrees b r x y) o.2 (other_2 b s.first s.second s.third o.0 s.fourth x y ne a)
  apart side b (suc (suc (suc zero))) s t e f x y ne h a =
      let o = put_out (λ p. row s.first s.second s.third p) ((from side n).carry s.fourth e) f t h in
      subst (λ r. links.agrees b r x y) o.2 (other_3 b s.first s.second s.third s.fourth o.0 x y ne a)
  apart side b (suc (suc (suc (suc c)))) s t e f x y ne h a = absurd (never_sent NotOfKind t f (sym (beyond side (suc (suc (suc (suc c)))) s e (omega arith)) ∙ h))

  pub row_lawful : LawfulRow 4 (four k l m n)
  row_lawful = record { each = each; apart = apart; beyond = beyond }

-- the law of one direction of a column
pub column_sends : {R : Type 0} (count : ℕ) (parts : Columns R) → LawfulRow count parts → (side : Side) (c : ℕ) → c < count → Sends (column_way parts side c)
column_sends count parts law Left c h = (law.each c h).sends Left
column_sends count parts law Right c h = (law.each c h).sends Right

-- Two rows matched by their row link, and a change carried from one to the other.
use Rattle.std.proofs.Common.{◌≡◌, ℕ, zero, suc, ◌<◌, ◌≤◌, ◌⊎◌, List, length, get_or, set, Some, Ok, sym, refl, ap, ◌∙◌, subst, inl, inr, arith}
use Rattle.std.proofs.lemmas.List.{length-set, get_or-set_same, get_or-set_other}
use Rattle.std.proofs.lemmas.Bool.{cases_eq}
use Rattle.kinds.specs.Kinds.{apply, fold}
use Rattle.kinds.specs.declared.kind.Kind.{Kind}
use Rattle.kinds.specs.declared.change.Change.{Change}
use Rattle.kinds.specs.declared.side.Side.{Side}
use Rattle.kinds.specs.declared.side.Side.TheVariants.{Left, Right}
use Rattle.kinds.proofs.Folding.{folds_act}
use Rattle.links.specs.Laws.{sent, Sends}
use Rattle.links.specs.Columns.{Columns, across, facing, column_way, LawfulRow}
use Rattle.documents.specs.Documents.{zeros}

-- rows x of a side and y of the other, which agree in every column through a link r of the build of `blank`
pub record Matched {R : Type 0} (row : Columns R) (s : Side) (blank : R) (x y : List ℕ) (r : R) : Type 0 where
  pub wide : length x ≡ 4
  pub as_wide : length y ≡ 4
  pub built : row.fresh r ≡ blank
  pub agree : (c : ℕ) → c < 4 → facing s (row.agrees c r) (get_or x c 0) (get_or y c 0)

-- what a change of one of them comes to
pub record Carries {R : Type 0} (row : Columns R) (s : Side) (blank : R) (x y : List ℕ) (r : R) (c v : ℕ) (e : Change) : Type 0 where
  pub g : Change
  pub r1 : R
  pub w : ℕ
  pub sent_is : row.carry s c r e ≡ sent g r1
  pub applies : apply (row.kind (across s) c blank) g (get_or y c 0) ≡ Ok w
  pub matched : Matched row s blank (set x c v) (set y c w) r1

-- two changes of one column, their fold, and the fold of what they were carried to
pub record RowFold {R : Type 0} (row : Columns R) (s : Side) (blank : R) (r r2 : R) (c x y v w : ℕ) (e f g h : Change) : Type 0 where
  pub ef : Change
  pub gh : Change
  pub fold_is : fold (row.kind s c blank) e f ≡ Ok (Some ef)
  pub applies : apply (row.kind s c blank) ef x ≡ Ok v
  pub sent_is : row.carry s c r ef ≡ sent gh r2
  pub folded : fold (row.kind (across s) c blank) g h ≡ Ok (Some gh)
  pub applies_there : apply (row.kind (across s) c blank) gh y ≡ Ok w

pub turned : {R : Type 0} (row : Columns R) (s : Side) (blank : R) (x y : List ℕ) (r : R) → Matched row s blank x y r → Matched row (across s) blank y x r
turned row Left blank x y r m = record { wide = m.as_wide; as_wide = m.wide; built = m.built; agree = m.agree }
turned row Right blank x y r m = record { wide = m.as_wide; as_wide = m.wide; built = m.built; agree = m.agree }

-- a fold that acts from y to w, by the fold's own name
fold_acts : (k : Kind) (e f g : Change) (x v z : ℕ) → apply k e x ≡ Ok v → apply k f v ≡ Ok z → fold k e f ≡ Ok (Some g) → apply k g x ≡ Ok z
fold_acts k e f g x v z p q h =
    let a = folds_act k e f x v z p q in
    let same : a.0 ≡ g = cc (a.1, h) in
    subst (λ o. apply k o x ≡ Ok z) same a.3

module _ {R : Type 0} (row : Columns R) (L : LawfulRow 4 row) where
  -- the law of a column from a side
  pub way : (s : Side) (c : ℕ) → c < 4 → Sends (column_way row s c)
  way Left c h = (L.each c h).sends Left
  way Right c h = (L.each c h).sends Right

  pub kind_is : (s : Side) (blank r : R) (c : ℕ) → c < 4 → row.fresh r ≡ blank → row.kind s c r ≡ row.kind s c blank
  kind_is s blank r c h e = of s ((L.each c h).kinds r blank (sym ((L.each c h).resets r) ∙ ap row.fresh e))
    where
      of : (s : Side) → (row.kind Left c r ≡ row.kind Left c blank) × (row.kind Right c r ≡ row.kind Right c blank) → row.kind s c r ≡ row.kind s c blank
      of Left q = q.0
      of Right q = q.1

  apart_facing : (s : Side) (r r1 : R) (c b : ℕ) (e g : Change) (x y : ℕ) → row.carry s c r e ≡ sent g r1 → (b ≡ c → ⊥) → facing s (row.agrees b r) x y → facing s (row.agrees b r1) x y
  apart_facing Left r r1 c b e g x y h n a = L.apart Left b c r r1 e g x y n h a
  apart_facing Right r r1 c b e g x y h n a = L.apart Right b c r r1 e g y x n h a

  pub zeros_matched : (blank : R) → row.fresh blank ≡ blank → Matched row Left blank zeros zeros blank
  zeros_matched blank e = record { wide = refl; as_wide = refl; built = e; agree = agreed }
    where
      start : (c : ℕ) → c < 4 → row.agrees c blank 0 0
      start c h = subst (λ r. row.agrees c r 0 0) e ((L.each c h).starts blank)

      agreed : (c : ℕ) → c < 4 → row.agrees c blank (get_or zeros c 0) (get_or zeros c 0)
      agreed zero h = start 0 h
      agreed (suc zero) h = start 1 h
      agreed (suc (suc zero)) h = start 2 h
      agreed (suc (suc (suc zero))) h = start 3 h
      agreed (suc (suc (suc (suc c)))) h = absurd (omega arith)

  -- both values lie within the limits of their kinds
  pub within_limits : (blank : R) (x y : List ℕ) (r : R) (c : ℕ) → Matched row Left blank x y r → c < 4 →
      (get_or x c 0 ≤ (row.kind Left c blank).limit) × (get_or y c 0 ≤ (row.kind Right c blank).limit)
  within_limits blank x y r c m h =
      let b = (L.each c h).bounded r (get_or x c 0) (get_or y c 0) (m.agree c h) in
      (subst (λ k. get_or x c 0 ≤ k.limit) (kind_is Left blank r c h m.built) b.0, subst (λ k. get_or y c 0 ≤ k.limit) (kind_is Right blank r c h m.built) b.1)

  pub carry_row : (s : Side) (blank : R) (x y : List ℕ) (r : R) (c v : ℕ) (e : Change) → Matched row s blank x y r → c < 4 →
      apply (row.kind s c blank) e (get_or x c 0) ≡ Ok v → Carries row s blank x y r c v e
  carry_row s blank x y r c v e m small h =
      let a = (way s c small).follows r (get_or x c 0) (get_or y c 0) v e (m.agree c small) (rw (kind_is s blank r c small m.built) h) in
      record {
        g = a.1;
        r1 = a.0;
        w = a.2;
        sent_is = a.3;
        applies = subst (λ k. apply k a.1 (get_or y c 0) ≡ Ok a.2) (kind_is (across s) blank r c small m.built) a.4;
        matched = record {
          wide = length-set x c v ∙ m.wide;
          as_wide = length-set y c a.2 ∙ m.as_wide;
          built = (way s c small).keeps r a.0 e a.1 a.3 ∙ m.built;
          agree = λ b l. each a.1 a.0 a.2 a.3 a.5 b l (cases_eq b c);
        };
      }
    where
      each : (g : Change) (r1 : R) (w : ℕ) → row.carry s c r e ≡ sent g r1 → facing s (row.agrees c r1) v w → (b : ℕ) → b < 4 → (b ≡ c) ⊎ (b ≡ c → ⊥) →
          facing s (row.agrees b r1) (get_or (set x c v) b 0) (get_or (set y c w) b 0)
      each g r1 w q new b l (inl same) =
          let p1 : get_or (set x c v) c 0 ≡ v = get_or-set_same x c v 0 (omega (arith, m.wide)) in
          let p2 : get_or (set y c w) c 0 ≡ w = get_or-set_same y c w 0 (omega (arith, m.as_wide)) in
          rw (same, p1, p2) new
      each g r1 w q new b l (inr apart) =
          rw (get_or-set_other x c b v 0 apart, get_or-set_other y c b w 0 apart) (apart_facing s r r1 c b e g _ _ q apart (m.agree b l))

  pub fold_row : (s : Side) (blank r r1 r2 : R) (c x y v1 w1 v w : ℕ) (e f g h : Change) → row.fresh r ≡ blank → c < 4 → facing s (row.agrees c r) x y →
      apply (row.kind s c blank) e x ≡ Ok v1 → apply (row.kind s c blank) f v1 ≡ Ok v →
      row.carry s c r e ≡ sent g r1 → row.carry s c r1 f ≡ sent h r2 →
      apply (row.kind (across s) c blank) g y ≡ Ok w1 → apply (row.kind (across s) c blank) h w1 ≡ Ok w →
      RowFold row s blank r r2 c x y v w e f g h
  fold_row s blank r r1 r2 c x y v1 w1 v w e f g h built small agree ae af ce cf ag ah =
      let k : row.kind s c r ≡ row.kind s c blank = kind_is s blank r c small built in
      let o : row.kind (across s) c r ≡ row.kind (across s) c blank = kind_is (across s) blank r c small built in
      let z = (way s c small).folds r r1 r2 x y v1 v e f g h agree (subst (λ q. apply q e x ≡ Ok v1) (sym k) ae) (subst (λ q. apply q f v1 ≡ Ok v) (sym k) af) ce cf in
      let here : fold (row.kind s c blank) e f ≡ Ok (Some z.0) = subst (λ q. fold q e f ≡ Ok (Some z.0)) k z.2 in
      let there : fold (row.kind (across s) c blank) g h ≡ Ok (Some z.1) = subst (λ q. fold q g h ≡ Ok (Some z.1)) o z.3 in
      record {
        ef = z.0;
        gh = z.1;
        fold_is = here;
        applies = fold_acts _ e f z.0 x v1 v ae af here;
        sent_is = z.4;
        folded = there;
        applies_there = fold_acts _ g h z.1 y w1 w ag ah there;
      }

-- What a pair's state keeps: its records are matched one by one. Where a change finds its record in both documents.
use Rattle.std.proofs.Common.{◌≡◌, ℕ, ◌<◌, ◌≤◌, List, length, get_or, set, Some, Ok, refl, ap, ◌∙◌, arith}
use Rattle.std.proofs.lemmas.List.{length-set, take-set}
use Rattle.kinds.specs.Kinds.{apply}
use Rattle.kinds.specs.declared.change.Change.{Change}
use Rattle.kinds.specs.declared.side.Side.{Side}
use Rattle.kinds.specs.declared.side.Side.TheVariants.{Left, Right}
use Rattle.links.specs.Columns.{Columns, across}
use Rattle.frames.specs.Edits.{Edit, change}
use Rattle.documents.specs.Documents.{Line, record_line, remark_line, records_of, records_before, line_of, item, line_row, Item, form, Acts}
use Rattle.documents.specs.Across.{translated}
use Rattle.documents.specs.Attempts.{State, document, kinds, holding}
use Rattle.documents.specs.Promise.{Acted}
use Rattle.documents.proofs.Places.{item_below, item_set, record_at, record_set, before_line_of, at_line_of, line_of_before}
use Rattle.documents.proofs.Three.{Three, three_set, three_seen, three_lengths}
use Rattle.documents.proofs.Rows.{Matched, turned}

pub record Sound {R : Type 0} (row : Columns R) (d : State R) : Type 0 where
  pub rows : Three (Matched row Left d.blank) (records_of d.lines) d.records d.links
  pub blank_is : row.fresh d.blank ≡ d.blank
  pub within : length d.lines ≤ d.size

-- what an edit comes to that fits its own document
pub record Taken {R : Type 0} (row : Columns R) (s : Side) (op : Edit) (d : State R) : Type 0 where
  pub e : State R
  pub t : Edit
  pub framed : e ≡ holding d e.lines e.records e.links
  pub here : Acted row s op d e
  pub told_as : translated row s d.blank d.lines d.links op ≡ Ok (t, e.links)
  pub there : Acted row (across s) t d e
  pub sound : Sound row e

-- the first for the left side, the second for the right
abbrev pub own : {A : Type 0} → Side → A → A → A
own Left a b = a
own Right a b = b

-- Record j stands in line p. Its rows are x on the side s and y on the other, its row link is r.
pub record At {R : Type 0} (s : Side) (d : State R) (p j : ℕ) (x y : List ℕ) (r : R) : Type 0 where
  pub line : item d.lines p ≡ Some (record_line (own s x y))
  pub there : item d.records j ≡ Some (own s y x)
  pub link : item d.links j ≡ Some r
  pub before : records_before p d.lines ≡ j
  pub of : line_of j d.lines ≡ p

-- the state with other rows and another link at that place
abbrev pub placed : {R : Type 0} → Side → State R → ℕ → ℕ → List ℕ → List ℕ → R → State R
placed s d p j x y r = holding d (set d.lines p (record_line (own s x y))) (set d.records j (own s y x)) (set d.links j r)

pub at_placed : {R : Type 0} (s : Side) (d : State R) (p j : ℕ) (x y x1 y1 : List ℕ) (r r1 : R) → At s d p j x y r → At s (placed s d p j x1 y1 r1) p j x1 y1 r1
at_placed s d p j x y x1 y1 r r1 a =
    let b : records_before p (set d.lines p (record_line (own s x1 y1))) ≡ j = ap (λ l. length (records_of l)) (take-set d.lines p (record_line (own s x1 y1))) ∙ a.before in
    let i = item_set d.lines p (record_line (own s x y)) (record_line (own s x1 y1)) a.line in
    record {
      line = i;
      there = item_set d.records j (own s y x) (own s y1 x1) a.there;
      link = item_set d.links j r r1 a.link;
      before = b;
      of = rw b at (line_of_before (set d.lines p (record_line (own s x1 y1))) p (own s x1 y1) i);
    }

unmatched : {R : Type 0} (row : Columns R) (s : Side) (blank : R) (x y : List ℕ) (r : R) → Matched row s blank x y r → Matched row Left blank (own s x y) (own s y x) r
unmatched row Left blank x y r m = m
unmatched row Right blank x y r m = turned row Right blank x y r m

pub sound_placed : {R : Type 0} (row : Columns R) (s : Side) (d : State R) (p j : ℕ) (x y x1 y1 : List ℕ) (r r1 : R) →
    Sound row d → At s d p j x y r → Matched row s d.blank x1 y1 r1 → Sound row (placed s d p j x1 y1 r1)
sound_placed row s d p j x y x1 y1 r r1 S a m = record {
  rows =
      rw (record_set d.lines p (own s x y) (own s x1 y1) a.line, a.before)
      (three_set (Matched row Left d.blank) (records_of d.lines) d.records d.links j (own s x1 y1) (own s y1 x1) r1 S.rows (unmatched row s d.blank x1 y1 r1 m));
  blank_is = S.blank_is;
  within = rw (length-set d.lines p (record_line (own s x1 y1))) S.within;
}

row_line : (l : Line) (x : List ℕ) → line_row l ≡ Some x → l ≡ record_line x
row_line (record_line y) x e = cc
row_line (remark_line t) x e = cc

-- a change that fits its own document, found in both
pub record Found {R : Type 0} (row : Columns R) (s : Side) (d : State R) (p : ℕ) : Type 0 where
  pub line : ℕ
  pub number : ℕ
  pub x : List ℕ
  pub y : List ℕ
  pub r : R
  pub here : At s d line number x y r
  pub asked : p ≡ own s line number
  pub matched : Matched row s d.blank x y r

module _ {R : Type 0} (row : Columns R) where
  pub found : (s : Side) (d : State R) (p c : ℕ) (f : Change) (xs : List (Item s)) → Sound row d → Acts (form s) (kinds row s d) (change p c f) (document s d) xs → Found row s d p
  found Left d p c f xs S a =
      let i : item d.lines p ≡ Some (record_line a.1) = a.3 ∙ ap Some (row_line a.0 a.1 a.4) in
      let j = records_before p d.lines in
      let k = record_at d.lines p a.1 i in
      let z = three_seen (Matched row Left d.blank) (records_of d.lines) d.records d.links j S.rows (item_below _ _ _ k) in
      let same : z.x ≡ a.1 = cc (z.x_is, k) in
      record {
        line = p;
        number = j;
        x = a.1;
        y = z.y;
        r = z.z;
        here = record { line = i; there = z.y_is; link = z.z_is; before = refl; of = line_of_before d.lines p a.1 i };
        asked = refl;
        matched = rw same at z.holds;
      }
  found Right d p c f xs S a =
      let q = three_lengths (Matched row Left d.blank) (records_of d.lines) d.records d.links S.rows in
      let b = item_below d.records p a.0 a.3 in
      let z = three_seen (Matched row Left d.blank) (records_of d.lines) d.records d.links p S.rows (omega arith) in
      let i = at_line_of d.lines p z.x z.x_is in
      record {
        line = line_of p d.lines;
        number = p;
        x = z.y;
        y = z.x;
        r = z.z;
        here = record { line = i; there = z.y_is; link = z.z_is; before = before_line_of d.lines p (omega arith); of = refl };
        asked = refl;
        matched = turned row Left d.blank z.x z.y z.z z.holds;
      }

  -- the change applies to the value there
  pub applies_at : (s : Side) (d : State R) (p j c : ℕ) (x y : List ℕ) (r : R) (f : Change) (xs : List (Item s)) → At s d p j x y r → Acts (form s) (kinds row s d) (change (own s p j) c f) (document s d) xs →
      (v : ℕ) × (c < 4) × (apply (kinds row s d c) f (get_or x c 0) ≡ Ok v)
  applies_at Left d p j c x y r f xs a h =
      let same : h.1 ≡ x = cc (h.3, a.line, row_line h.0 h.1 h.4) in
      (h.2, h.5, rw same at h.6)
  applies_at Right d p j c x y r f xs a h =
      let same : h.1 ≡ x = cc (h.3, a.there, h.4) in
      (h.2, h.5, rw same at h.6)

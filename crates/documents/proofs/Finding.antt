-- What reads of the lines tell of the sheet, one line after the other, and once a record is taken out.
use Rattle.std.proofs.Common.{◌≡◌, ℕ, zero, suc, ◌+◌, ◌-◌, ◌<◌, ◌≤◌, min, true, false, ltb, List, [], ◌∷◌, map, length, get_or, filter, take, drop, set, Some, None, Option, sym, refl, ap, ◌∙◌, ⊎_elim, add-one, sub-one, arith}
use lib.ListN.{length-map}
use Rattle.std.specs.List.{insert, remove}
use Rattle.std.proofs.lemmas.List.{take_all, take-map, drop-map, map-append, map-set}
use Rattle.std.proofs.lemmas.List.Edits.{length-remove}
use Rattle.std.proofs.lemmas.Bool.{cases_lt, ltb-false, cases_Bool}
use Rattle.documents.specs.declared.line.Line.{Line as StoredLine}
use Rattle.documents.specs.declared.line.Line.TheVariants.{Record, Remark}
use Rattle.documents.specs.Documents.{Line, record_line, remark_line, line, sheet, records_of, records_before, line_of, place_for, item, moved}
use Rattle.documents.specs.Across.{is_record}
use Rattle.documents.specs.Attempts.{State}
use Rattle.documents.proofs.Places.{item_there, item_below, set_item, moved_is, moved_nowhere, before_within, records_removed, record_below, before_line_of, line_of_within, at_line_of, place_fits}

clash : {P : Type 0} → ◌≡◌ {A = ℕ} 0 1 → P
clash h = absurd (omega arith)

-- ---- items

pub got : {X : Type 0} (xs : List X) (i : ℕ) (x : X) → i < length xs → x ≡ get_or xs i x → item xs i ≡ Some x
got [] i x lt e = absurd (omega arith)
got (y ∷ xs) zero x lt e = ap Some (sym e)
got (y ∷ xs) (suc i) x lt e = got xs i x (omega arith) e

pub not_got : {X : Type 0} (xs : List X) (i : ℕ) → length xs ≤ i → item xs i ≡ None
not_got [] i le = refl
not_got (y ∷ xs) zero le = absurd (omega arith)
not_got (y ∷ xs) (suc i) le = not_got xs i (omega arith)

pub item_map : {X Y : Type 0} (f : X → Y) (xs : List X) (i : ℕ) (x : X) → item xs i ≡ Some x → item (map f xs) i ≡ Some (f x)
item_map f [] i x e = clash (cc e)
item_map f (y ∷ xs) zero x e = let z : y ≡ x = cc e in ap (λ w. Some (f w)) z
item_map f (y ∷ xs) (suc i) x e = item_map f xs i x e

pub set_got : {X : Type 0} (xs : List X) (i : ℕ) (x : X) → i < length xs → x ≡ get_or xs i x → set xs i x ≡ xs
set_got xs i x lt e = set_item xs i x (got xs i x lt e)

pub set_past : {X : Type 0} (xs : List X) (i : ℕ) (x : X) → length xs ≤ i → set xs i x ≡ xs
set_past [] i x le = refl
set_past (y ∷ xs) zero x le = absurd (omega arith)
set_past (y ∷ xs) (suc i) x le = ap (λ l. y ∷ l) (set_past xs i x (omega arith))

pub moved_here : {X : Type 0} (xs : List X) (j : ℕ) → j < length xs → moved xs j j ≡ xs
moved_here xs j lt = let x = item_there xs j lt in moved_nowhere xs j x.0 x.1

-- ---- the sheet that stored lines stand for

-- a stored line that was read is that line of the sheet
pub line_got : (xs : List StoredLine) (i : ℕ) (x : StoredLine) → i < length xs → x ≡ get_or xs i x → item (sheet xs) i ≡ Some (line x)
line_got xs i x lt e = item_map line xs i x (got xs i x lt e)

pub no_line : (xs : List StoredLine) (i : ℕ) → length xs ≤ i → item (sheet xs) i ≡ None
no_line xs i le = not_got (sheet xs) i (omega (arith, length-map xs line))

-- a stored line is a record where that line of the sheet is
pub record_got : (xs : List StoredLine) (i : ℕ) (d : StoredLine) → i < length xs → is_record (item (sheet xs) i) ≡ is_record (Some (line (get_or xs i d)))
record_got [] i d lt = absurd (omega arith)
record_got (x ∷ xs) zero d lt = refl
record_got (x ∷ xs) (suc i) d lt = record_got xs i d (omega arith)

pub sheet_inserted : (xs : List StoredLine) (p : ℕ) (x : StoredLine) → sheet (insert xs p x) ≡ insert (sheet xs) p (line x)
sheet_inserted xs p x = map-append line (take p xs) (x ∷ drop p xs) ∙ sym (simp (take-map, drop-map))

pub sheet_set : (xs : List StoredLine) (p : ℕ) (x : StoredLine) → sheet (set xs p x) ≡ set (sheet xs) p (line x)
sheet_set xs p x = map-set line xs p x

pub sheet_removed : (xs : List StoredLine) (p : ℕ) → sheet (remove xs p) ≡ remove (sheet xs) p
sheet_removed xs p = map-append line (take p xs) (drop (suc p) xs) ∙ sym (simp (take-map, drop-map))

pub sheet_moved : (xs : List StoredLine) (p q : ℕ) → p < length xs → sheet (moved xs p q) ≡ moved (sheet xs) p q
sheet_moved xs p q lt =
    let x = item_there xs p lt in
    ap sheet (moved_is xs p q x.0 x.1) ∙ sheet_inserted (remove xs p) q x.0 ∙ ap (λ v. insert v q (line x.0)) (sheet_removed xs p)
    ∙ sym (moved_is (sheet xs) p q (line x.0) (item_map line xs p x.0 x.1))

-- ---- record lines and remarks

pub told_record : (ls : List Line) (p : ℕ) → is_record (item ls p) ≡ true → (x : List ℕ) × (item ls p ≡ Some (record_line x))
told_record [] p h = clash (cc h)
told_record (record_line x ∷ ls) zero h = (x, refl)
told_record (remark_line t ∷ ls) zero h = clash (cc h)
told_record (l ∷ ls) (suc p) h = told_record ls p h

pub told_remark : (ls : List Line) (p : ℕ) → p < length ls → is_record (item ls p) ≡ false → (t : List ℕ) × (item ls p ≡ Some (remark_line t))
told_remark [] p lt h = absurd (omega arith)
told_remark (record_line x ∷ ls) zero lt h = clash (cc h)
told_remark (remark_line t ∷ ls) zero lt h = (t, refl)
told_remark (l ∷ ls) (suc p) lt h = told_remark ls p (omega arith) h

pub never_remark : (o : Option Line) (t : List ℕ) → o ≡ Some (remark_line t) → is_record o ≡ true → ⊥
never_remark o t i h = let z : true ≡ false = sym h ∙ ap is_record i in clash (cc z)

pub never_none : (o : Option Line) → o ≡ None → is_record o ≡ true → ⊥
never_none o i h = let z : true ≡ false = sym h ∙ ap is_record i in clash (cc z)

-- ---- counting the record lines from the start

pub before_record : (ls : List Line) (i : ℕ) → is_record (item ls i) ≡ true → records_before (i + 1) ls ≡ records_before i ls + 1
before_record [] i h = clash (cc h)
before_record (record_line x ∷ ls) zero h = refl
before_record (remark_line t ∷ ls) zero h = clash (cc h)
before_record (record_line x ∷ ls) (suc i) h = rw add-one (omega (arith, rw add-one at (before_record ls i h)))
before_record (remark_line t ∷ ls) (suc i) h = rw add-one (rw add-one at (before_record ls i h))

pub before_other : (ls : List Line) (i : ℕ) → is_record (item ls i) ≡ false → records_before (i + 1) ls ≡ records_before i ls
before_other [] zero h = refl
before_other [] (suc i) h = rw add-one refl
before_other (record_line x ∷ ls) zero h = clash (cc h)
before_other (remark_line t ∷ ls) zero h = refl
before_other (record_line x ∷ ls) (suc i) h = rw add-one (omega (arith, rw add-one at (before_other ls i h)))
before_other (remark_line t ∷ ls) (suc i) h = rw add-one (rw add-one at (before_other ls i h))

-- past the end there are no more
pub before_end : (ls : List Line) (p i : ℕ) → i ≡ min p (length ls) → records_before p ls ≡ records_before i ls
before_end ls p i e =
    ⊎_elim (λ (h : p < length ls). let f : i ≡ p = omega arith in rw f refl)
    (λ (h : length ls ≤ p). let f : length ls ≤ i = omega arith in rw (take_all p ls h, take_all i ls f) refl)
    (cases_lt p (length ls))

-- the stored lines that are records are as many as the sheet's records
pub records_counted : (xs : List StoredLine) → length (filter (λ l. is_record (Some (line l))) xs) ≡ length (records_of (sheet xs))
records_counted [] = refl
records_counted (Record x ∷ xs) = ap suc (records_counted xs)
records_counted (Remark m ∷ xs) = records_counted xs

pub before_counted : (xs : List StoredLine) (p : ℕ) → length (filter (λ l. is_record (Some (line l))) (take p xs)) ≡ records_before p (sheet xs)
before_counted xs p = records_counted (take p xs) ∙ ap (λ ls. length (records_of ls)) (sym (take-map line p xs))

-- ---- the line of a record, looked for from line i on

pub line_here : (ls : List Line) (i : ℕ) → is_record (item ls i) ≡ true → line_of 0 (drop i ls) ≡ 0
line_here [] i h = clash (cc h)
line_here (record_line x ∷ ls) zero h = refl
line_here (remark_line t ∷ ls) zero h = clash (cc h)
line_here (record_line x ∷ ls) (suc i) h = line_here ls i h
line_here (remark_line t ∷ ls) (suc i) h = line_here ls i h

line_suc : (ls : List Line) (i j : ℕ) → is_record (item ls i) ≡ true → line_of (suc j) (drop i ls) ≡ suc (line_of j (drop (suc i) ls))
line_suc [] i j h = clash (cc h)
line_suc (record_line x ∷ ls) zero j h = refl
line_suc (remark_line t ∷ ls) zero j h = clash (cc h)
line_suc (record_line x ∷ ls) (suc i) j h = line_suc ls i j h
line_suc (remark_line t ∷ ls) (suc i) j h = line_suc ls i j h

pub line_past : (ls : List Line) (i j : ℕ) → is_record (item ls i) ≡ true → 0 < j → line_of j (drop i ls) ≡ 1 + line_of (j - 1) (drop (i + 1) ls)
line_past ls i zero h lt = absurd (omega arith)
line_past ls i (suc j) h lt = rw (add-one, sub-one) (line_suc ls i j h ∙ omega arith)

pub line_over : (ls : List Line) (i j : ℕ) → i < length ls → is_record (item ls i) ≡ false → line_of j (drop i ls) ≡ 1 + line_of j (drop (i + 1) ls)
line_over [] i j lt h = absurd (omega arith)
line_over (record_line x ∷ ls) zero j lt h = clash (cc h)
line_over (remark_line t ∷ ls) zero j lt h = omega arith
line_over (record_line x ∷ ls) (suc i) j lt h = rw add-one (rw add-one at (line_over ls i j (omega arith) h))
line_over (remark_line t ∷ ls) (suc i) j lt h = rw add-one (rw add-one at (line_over ls i j (omega arith) h))

-- past the last record there is the sheet's end
pub line_of_end : (ls : List Line) (j : ℕ) → length (records_of ls) ≤ j → line_of j ls ≡ length ls
line_of_end [] j h = refl
line_of_end (remark_line t ∷ ls) j h = ap suc (line_of_end ls j h)
line_of_end (record_line x ∷ ls) zero h = absurd (omega arith)
line_of_end (record_line x ∷ ls) (suc j) h = ap suc (line_of_end ls j (omega arith))

pub place_is_line : (ls : List Line) (j : ℕ) → place_for j ls ≡ line_of j ls
place_is_line ls j = ⊎_elim (λ t. rw t refl) (λ t. rw t (sym (line_of_end ls j (ltb-false _ _ t)))) (cases_Bool (ltb j (length (records_of ls))))

-- what is known of the line of record j, and of the place for a record j, where there are m records
pub record LineOf (ls : List Line) (m j p : ℕ) : Type 0 where
  pub value : p ≡ line_of j ls
  pub place : p ≡ place_for j ls
  pub within : p ≤ length ls
  pub number : j ≤ m → j ≡ records_before p ls
  pub found : j < m → (p < length ls) × (is_record (item ls p) ≡ true)

pub line_of_is : (ls : List Line) (m j p : ℕ) → length (records_of ls) ≡ m → p ≡ line_of j ls → LineOf ls m j p
line_of_is ls m j p e is = record {
  value = is;
  place = is ∙ sym (place_is_line ls j);
  within = rw is (line_of_within ls j);
  number = λ h. rw is (sym (before_line_of ls j (omega arith)));
  found = λ h. rw is (at_record (omega arith));
}
  where
    at_record : j < length (records_of ls) → (line_of j ls < length ls) × (is_record (item ls (line_of j ls)) ≡ true)
    at_record h =
        let x = item_there (records_of ls) j h in
        let y = at_line_of ls j x.0 x.1 in
        (item_below ls (line_of j ls) (record_line x.0) y, ap is_record y)

-- ---- once the record that is line p is gone

pub before_removed : (ls : List Line) (p q : ℕ) → is_record (item ls p) ≡ true → q ≤ p → records_before q (remove ls p) ≡ records_before q ls
before_removed [] p q h le = clash (cc h)
before_removed (l ∷ ls) p zero h le = refl
before_removed (l ∷ ls) zero (suc q) h le = absurd (omega arith)
before_removed (record_line x ∷ ls) (suc p) (suc q) h le = ap suc (before_removed ls p q h (omega arith))
before_removed (remark_line t ∷ ls) (suc p) (suc q) h le = before_removed ls p q h (omega arith)

before_past : (ls : List Line) (p q : ℕ) → is_record (item ls p) ≡ true → p ≤ q → suc (records_before q (remove ls p)) ≡ records_before (suc q) ls
before_past [] p q h le = clash (cc h)
before_past (record_line x ∷ ls) zero q h le = refl
before_past (remark_line t ∷ ls) zero q h le = clash (cc h)
before_past (l ∷ ls) (suc p) zero h le = absurd (omega arith)
before_past (record_line x ∷ ls) (suc p) (suc q) h le = ap suc (before_past ls p q h (omega arith))
before_past (remark_line t ∷ ls) (suc p) (suc q) h le = before_past ls p q h (omega arith)

pub before_removed_past : (ls : List Line) (p q : ℕ) → is_record (item ls p) ≡ true → p ≤ q → records_before q (remove ls p) + 1 ≡ records_before (q + 1) ls
before_removed_past ls p q h le = rw (add-one q) (omega (arith, before_past ls p q h le))

-- one record less is left
pub rest_records : (ls : List Line) (p : ℕ) → is_record (item ls p) ≡ true → length (records_of (remove ls p)) + 1 ≡ length (records_of ls)
rest_records ls p h =
    let x = told_record ls p h in
    let b = ap length (records_removed ls p x.0 x.1) in
    let n = length-remove (records_of ls) (records_before p ls) (record_below ls p x.0 x.1) in
    omega arith

pub before_removed_below : (ls : List Line) (p q : ℕ) → is_record (item ls p) ≡ true → records_before q (remove ls p) < length (records_of ls)
before_removed_below ls p q h = omega (arith, before_within (remove ls p) q, rest_records ls p h)

pub line_removed : (ls : List Line) (p k : ℕ) → is_record (item ls p) ≡ true → k < records_before p ls → line_of k (remove ls p) ≡ line_of k ls
line_removed [] p k h lt = clash (cc h)
line_removed (record_line x ∷ ls) zero k h lt = absurd (omega arith)
line_removed (remark_line t ∷ ls) zero k h lt = absurd (omega arith)
line_removed (record_line x ∷ ls) (suc p) zero h lt = refl
line_removed (record_line x ∷ ls) (suc p) (suc k) h lt = ap suc (line_removed ls p k h (omega arith))
line_removed (remark_line t ∷ ls) (suc p) k h lt = ap suc (line_removed ls p k h lt)

line_past_removed : (ls : List Line) (p k : ℕ) → is_record (item ls p) ≡ true → records_before p ls ≤ k → suc (line_of k (remove ls p)) ≡ line_of (suc k) ls
line_past_removed [] p k h le = clash (cc h)
line_past_removed (record_line x ∷ ls) zero k h le = refl
line_past_removed (remark_line t ∷ ls) zero k h le = clash (cc h)
line_past_removed (record_line x ∷ ls) (suc p) zero h le = absurd (omega arith)
line_past_removed (record_line x ∷ ls) (suc p) (suc k) h le = ap suc (line_past_removed ls p k h (omega arith))
line_past_removed (remark_line t ∷ ls) (suc p) k h le = ap suc (line_past_removed ls p k h le)

pub line_removed_past : (ls : List Line) (p k : ℕ) → is_record (item ls p) ≡ true → records_before p ls ≤ k → line_of k (remove ls p) + 1 ≡ line_of (k + 1) ls
line_removed_past ls p k h le = rw (add-one k) (omega (arith, line_past_removed ls p k h le))

-- what is known of the place for record k then
pub place_without : (ls : List Line) (p k q : ℕ) → is_record (item ls p) ≡ true → k < length (records_of ls) → q ≡ place_for k (remove ls p) → (q < length ls) × (k ≡ records_before q (remove ls p))
place_without ls p k q h lt e =
    let x = told_record ls p h in
    let f = place_fits (remove ls p) k (omega (arith, rest_records ls p h)) in
    (omega (arith, f.0, e, length-remove ls p (item_below ls p (record_line x.0) x.1)), rw e (sym f.1))

-- ---- two states with the same parts are the same

same_parts : {R : Type 0} (m n : ℕ) (a b : R) (ls ms : List Line) (rs ss : List (List ℕ)) (ks js : List R) → m ≡ n → a ≡ b → ls ≡ ms → rs ≡ ss → ks ≡ js →
    ◌≡◌ {A = State R} (record { size = m; blank = a; lines = ls; records = rs; links = ks }) (record { size = n; blank = b; lines = ms; records = ss; links = js })
same_parts m n a b ls ms rs ss ks js p q r s t = rw (p, q, r, s, t) refl

pub same_state : {R : Type 0} (d e : State R) → d.size ≡ e.size → d.blank ≡ e.blank → d.lines ≡ e.lines → d.records ≡ e.records → d.links ≡ e.links → d ≡ e
same_state d e = same_parts d.size e.size d.blank e.blank d.lines e.lines d.records e.records d.links e.links

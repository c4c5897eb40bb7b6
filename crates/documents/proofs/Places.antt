-- An edit of the lines, seen as an edit of the records among them.
use Rattle.std.proofs.Common.{◌≡◌, ℕ, zero, suc, ◌<◌, ◌≤◌, ltb, List, [], ◌∷◌, length, get_or, set, Some, sym, refl, ap, ◌∙◌, ⊎_elim, arith}
use Rattle.std.specs.List.{insert, remove}
use Rattle.std.proofs.lemmas.List.{take_all}
use Rattle.std.proofs.lemmas.List.Edits.{length-insert, length-remove}
use Rattle.std.proofs.lemmas.Bool.{ltb-false, cases_Bool}
use Rattle.documents.specs.Documents.{Line, record_line, remark_line, records_of, records_before, line_of, place_for, item, put_in, moved}

-- ---- items

pub item_below : {X : Type 0} (xs : List X) (n : ℕ) (x : X) → item xs n ≡ Some x → n < length xs
item_below [] n x e = let z : ◌≡◌ {A = ℕ} 0 1 = cc in omega arith
item_below (y ∷ xs) zero x e = omega arith
item_below (y ∷ xs) (suc n) x e = let h = item_below xs n x e in omega arith

pub item_there : {X : Type 0} (xs : List X) (n : ℕ) → n < length xs → (x : X) × (item xs n ≡ Some x)
item_there [] n h = absurd (omega arith)
item_there (y ∷ xs) zero h = (y, refl)
item_there (y ∷ xs) (suc n) h = item_there xs n (omega arith)

pub item_set : {X : Type 0} (xs : List X) (n : ℕ) (x y : X) → item xs n ≡ Some x → item (set xs n y) n ≡ Some y
item_set [] n x y e = cc
item_set (z ∷ xs) zero x y e = refl
item_set (z ∷ xs) (suc n) x y e = item_set xs n x y e

pub item_get_or : {X : Type 0} (xs : List X) (n : ℕ) (x d : X) → item xs n ≡ Some x → get_or xs n d ≡ x
item_get_or [] n x d e = cc
item_get_or (z ∷ xs) zero x d e = cc
item_get_or (z ∷ xs) (suc n) x d e = item_get_or xs n x d e

pub set_item : {X : Type 0} (xs : List X) (n : ℕ) (x : X) → item xs n ≡ Some x → set xs n x ≡ xs
set_item [] n x e = refl
set_item (z ∷ xs) zero x e = cc
set_item (z ∷ xs) (suc n) x e = ap (λ l. z ∷ l) (set_item xs n x e)

pub moved_is : {X : Type 0} (xs : List X) (p q : ℕ) (x : X) → item xs p ≡ Some x → moved xs p q ≡ insert (remove xs p) q x
moved_is xs p q x e = ap (λ o. put_in o (remove xs p) q) e

pub put_back : {X : Type 0} (xs : List X) (p : ℕ) (x : X) → item xs p ≡ Some x → insert (remove xs p) p x ≡ xs
put_back [] p x e = cc
put_back (y ∷ xs) zero x e = cc
put_back (y ∷ xs) (suc p) x e = ap (λ l. y ∷ l) (put_back xs p x e)

pub moved_nowhere : {X : Type 0} (xs : List X) (p : ℕ) (x : X) → item xs p ≡ Some x → moved xs p p ≡ xs
moved_nowhere xs p x e = moved_is xs p p x e ∙ put_back xs p x e

pub length_moved : {X : Type 0} (xs : List X) (p q : ℕ) → p < length xs → q < length xs → length (moved xs p q) ≡ length xs
length_moved xs p q h k =
    let a = item_there xs p h in
    let r = length-remove xs p h in
    ap length (moved_is xs p q a.0 a.1) ∙ length-insert (remove xs p) q a.0 (omega arith) ∙ r

-- ---- from the sheet

pub before_within : (ls : List Line) (p : ℕ) → records_before p ls ≤ length (records_of ls)
before_within ls zero = omega arith
before_within [] (suc p) = omega arith
before_within (record_line x ∷ ls) (suc p) = let h = before_within ls p in omega arith
before_within (remark_line t ∷ ls) (suc p) = before_within ls p

-- there are no more records than lines
pub records_within : (ls : List Line) → length (records_of ls) ≤ length ls
records_within [] = omega arith
records_within (record_line x ∷ ls) = let h = records_within ls in omega arith
records_within (remark_line t ∷ ls) = let h = records_within ls in omega arith

pub records_inserted : (ls : List Line) (p : ℕ) (x : List ℕ) → records_of (insert ls p (record_line x)) ≡ insert (records_of ls) (records_before p ls) x
records_inserted ls zero x = refl
records_inserted [] (suc p) x = refl
records_inserted (record_line y ∷ ls) (suc p) x = ap (λ l. y ∷ l) (records_inserted ls p x)
records_inserted (remark_line t ∷ ls) (suc p) x = records_inserted ls p x

pub remark_inserted : (ls : List Line) (p : ℕ) (t : List ℕ) → records_of (insert ls p (remark_line t)) ≡ records_of ls
remark_inserted ls zero t = refl
remark_inserted [] (suc p) t = refl
remark_inserted (record_line y ∷ ls) (suc p) t = ap (λ l. y ∷ l) (remark_inserted ls p t)
remark_inserted (remark_line u ∷ ls) (suc p) t = remark_inserted ls p t

pub records_removed : (ls : List Line) (p : ℕ) (x : List ℕ) → item ls p ≡ Some (record_line x) → records_of (remove ls p) ≡ remove (records_of ls) (records_before p ls)
records_removed [] p x e = cc
records_removed (record_line y ∷ ls) zero x e = refl
records_removed (record_line y ∷ ls) (suc p) x e = ap (λ l. y ∷ l) (records_removed ls p x e)
records_removed (remark_line t ∷ ls) zero x e = cc
records_removed (remark_line t ∷ ls) (suc p) x e = records_removed ls p x e

pub remark_removed : (ls : List Line) (p : ℕ) (t : List ℕ) → item ls p ≡ Some (remark_line t) → records_of (remove ls p) ≡ records_of ls
remark_removed [] p t e = cc
remark_removed (record_line y ∷ ls) zero t e = cc
remark_removed (record_line y ∷ ls) (suc p) t e = ap (λ l. y ∷ l) (remark_removed ls p t e)
remark_removed (remark_line u ∷ ls) zero t e = refl
remark_removed (remark_line u ∷ ls) (suc p) t e = remark_removed ls p t e

pub record_at : (ls : List Line) (p : ℕ) (x : List ℕ) → item ls p ≡ Some (record_line x) → item (records_of ls) (records_before p ls) ≡ Some x
record_at [] p x e = cc
record_at (record_line y ∷ ls) zero x e = cc
record_at (record_line y ∷ ls) (suc p) x e = record_at ls p x e
record_at (remark_line t ∷ ls) zero x e = cc
record_at (remark_line t ∷ ls) (suc p) x e = record_at ls p x e

pub record_below : (ls : List Line) (p : ℕ) (x : List ℕ) → item ls p ≡ Some (record_line x) → records_before p ls < length (records_of ls)
record_below ls p x e = item_below (records_of ls) (records_before p ls) x (record_at ls p x e)

pub record_set : (ls : List Line) (p : ℕ) (x y : List ℕ) → item ls p ≡ Some (record_line x) → records_of (set ls p (record_line y)) ≡ set (records_of ls) (records_before p ls) y
record_set [] p x y e = cc
record_set (record_line z ∷ ls) zero x y e = refl
record_set (record_line z ∷ ls) (suc p) x y e = ap (λ l. z ∷ l) (record_set ls p x y e)
record_set (remark_line t ∷ ls) zero x y e = cc
record_set (remark_line t ∷ ls) (suc p) x y e = record_set ls p x y e

pub records_moved : (ls : List Line) (p q : ℕ) (x : List ℕ) → item ls p ≡ Some (record_line x) →
    records_of (moved ls p q) ≡ moved (records_of ls) (records_before p ls) (records_before q (remove ls p))
records_moved ls p q x e =
    ap records_of (moved_is ls p q (record_line x) e) ∙ records_inserted (remove ls p) q x ∙
    ap (λ l. insert l (records_before q (remove ls p)) x) (records_removed ls p x e) ∙
    sym (moved_is (records_of ls) (records_before p ls) (records_before q (remove ls p)) x (record_at ls p x e))

pub remark_moved : (ls : List Line) (p q : ℕ) (t : List ℕ) → item ls p ≡ Some (remark_line t) → records_of (moved ls p q) ≡ records_of ls
remark_moved ls p q t e = ap records_of (moved_is ls p q (remark_line t) e) ∙ remark_inserted (remove ls p) q t ∙ remark_removed ls p t e

-- ---- from the table

pub before_line_of : (ls : List Line) (j : ℕ) → j ≤ length (records_of ls) → records_before (line_of j ls) ls ≡ j
before_line_of [] j h = omega arith
before_line_of (remark_line t ∷ ls) j h = before_line_of ls j h
before_line_of (record_line x ∷ ls) zero h = refl
before_line_of (record_line x ∷ ls) (suc j) h = ap suc (before_line_of ls j (omega arith))

pub line_of_within : (ls : List Line) (j : ℕ) → line_of j ls ≤ length ls
line_of_within [] j = omega arith
line_of_within (remark_line t ∷ ls) j = let h = line_of_within ls j in omega arith
line_of_within (record_line x ∷ ls) zero = omega arith
line_of_within (record_line x ∷ ls) (suc j) = let h = line_of_within ls j in omega arith

pub at_line_of : (ls : List Line) (j : ℕ) (x : List ℕ) → item (records_of ls) j ≡ Some x → item ls (line_of j ls) ≡ Some (record_line x)
at_line_of [] j x e = cc
at_line_of (remark_line t ∷ ls) j x e = at_line_of ls j x e
at_line_of (record_line y ∷ ls) zero x e = cc
at_line_of (record_line y ∷ ls) (suc j) x e = at_line_of ls j x e

pub line_of_before : (ls : List Line) (p : ℕ) (x : List ℕ) → item ls p ≡ Some (record_line x) → line_of (records_before p ls) ls ≡ p
line_of_before [] p x e = cc
line_of_before (record_line y ∷ ls) zero x e = refl
line_of_before (record_line y ∷ ls) (suc p) x e = ap suc (line_of_before ls p x e)
line_of_before (remark_line t ∷ ls) zero x e = cc
line_of_before (remark_line t ∷ ls) (suc p) x e = ap suc (line_of_before ls p x e)

-- The place for record j is in the sheet, and j records stand before it.
pub place_fits : (ls : List Line) (j : ℕ) → j ≤ length (records_of ls) → (place_for j ls ≤ length ls) × (records_before (place_for j ls) ls ≡ j)
place_fits ls j h =
    let all : records_before (length ls) ls ≡ length (records_of ls) = ap (λ l. length (records_of l)) (take_all (length ls) ls (omega arith)) in
    ⊎_elim (λ t. rw t (line_of_within ls j, before_line_of ls j h)) (λ t. rw t (omega arith, omega (arith, all, h, ltb-false _ _ t))) (cases_Bool (ltb j (length (records_of ls))))

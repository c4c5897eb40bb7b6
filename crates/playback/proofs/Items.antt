-- An item of a document, and the line that is printed of it.
use Rattle.std.proofs.Common.{◌≡◌, ℕ, zero, suc, ◌-◌, ◌≤◌, List, [], ◌∷◌, ◌++◌, map, length, Some, None, Ok, Err, Option, refl, ap, ◌∙◌, arith}
use Rattle.kinds.specs.Answers.{need}
use Rattle.documents.specs.Documents.{item}

pub need_some : {X E : Type 0} (o : Option X) (e : E) (x : X) → Ok x ≡ need o e → o ≡ Some x
need_some None e x h = cc
need_some (Some y) e x h = cc

pub need_none : {X E : Type 0} (o : Option X) (e f : E) → Err f ≡ need o e → o ≡ None
need_none None e f h = refl
need_none (Some y) e f h = cc

-- what is made of an item stands where the item does
pub front : {X Y : Type 0} (f : X → Y) (xs : List X) (ys : List Y) (p : ℕ) (x : X) → item xs p ≡ Some x → item (map f xs ++ ys) p ≡ Some (f x)
front f [] ys p x h = cc
front f (y ∷ xs) ys zero x h = cc
front f (y ∷ xs) ys (suc p) x h = front f xs ys p x h

-- and past them stands what follows
pub past : {X Y : Type 0} (f : X → Y) (xs : List X) (ys : List Y) (p : ℕ) → item xs p ≡ None → item (map f xs ++ ys) p ≡ item ys (p - length xs)
past f [] ys p h = let same : p ≡ p - 0 = omega arith in ap (item ys) same
past f (y ∷ xs) ys zero h = cc
past f (y ∷ xs) ys (suc p) h = let same : p - length xs ≡ suc p - suc (length xs) = omega arith in past f xs ys p h ∙ ap (item ys) same

pub beyond : {X : Type 0} (xs : List X) (p : ℕ) → item xs p ≡ None → length xs ≤ p
beyond [] p h = omega arith
beyond (x ∷ xs) zero h = cc
beyond (x ∷ xs) (suc p) h = omega (arith, beyond xs p h)

-- of a single item, the first, and no other
pub only : {X : Type 0} (x : X) (p : ℕ) → p ≡ 0 → item (x ∷ []) p ≡ Some x
only x zero h = refl
only x (suc p) h = absurd (omega arith)

pub no_other : {X : Type 0} (x : X) (p : ℕ) → (p ≡ 0 → ⊥) → item (x ∷ []) p ≡ None
no_other x zero h = absurd (h refl)
no_other x (suc p) h = refl

-- Identities of and, or and exclusive or, decided by computation. An equation of expressions over n numbers holds of all numbers,
-- under equations that are assumed, if it holds wherever each number is 0 or 1: the operations work on each binary digit apart.
use Rattle.std.proofs.Common.{◌≡◌, ℕ, zero, suc, ◌+◌, ◌/◌, ◌%◌, ◌^◌, ◌<◌, ◌≤◌, Bool, true, false, cond, ◌&&◌, T, eqb, ◌⊎◌, List, [], ◌∷◌, map, length, get_or, sym, refl, ap, ◌∙◌, subst, ap₂, inl, inr, le-add_right, div-one, le-add_left, arith, eqb→eq, shr-shr}
use native.Mathlib.Nat.{zero-div}
use lib.Arith.{half_le, le-zero}
use lib.Dec.{eqb_refl}
use lib.Bits.{bit_and, bit_or, bit_xor, and_shr, or_shr, xor_shr, and_mod, or_mod, xor_mod}

-- ---- the digits of a number, and that they determine it

bit : ℕ → ℕ → ℕ
bit k x = x / 2 ^ k % 2

same : (n x y : ℕ) → x ≤ n → y ≤ n → ((k : ℕ) → bit k x ≡ bit k y) → x ≡ y
unfolding bit
same zero x y p q h = le-zero p ∙ sym (le-zero q)
same (suc n) x y p q h =
    let half : (z k : ℕ) → z / 2 / 2 ^ k % 2 ≡ bit (1 + k) z = λ z k. ap (λ y. y % 2) (shr-shr z 1 k) in
    let hi : x / 2 ≡ y / 2 = same n (x / 2) (y / 2) (half_le p) (half_le q) (λ k. half x k ∙ h (1 + k) ∙ sym (half y k)) in
    let lo : x % 2 ≡ y % 2 = simp div-one at (h 0) in
    omega arith

pub same_bits : (x y : ℕ) → ((k : ℕ) → x / 2 ^ k % 2 ≡ y / 2 ^ k % 2) → x ≡ y
unfolding bit
same_bits x y = same (x + y) x y (le-add_right x y) (le-add_left y x)

-- ---- expressions over a list of numbers, and equations of them

-- tighter than `◌∷◌`, so that a list of equations needs no brackets
infixl 74 ◌∩◌ ◌⊕◌
infixl 72 ◌∪◌
infix 70 ◌≐◌ ◌⊆◌
pub data Bits : Type 0 where
  none : Bits
  var : ℕ → Bits
  ◌∩◌ : Bits → Bits → Bits
  ◌∪◌ : Bits → Bits → Bits
  ◌⊕◌ : Bits → Bits → Bits

pub data Equation : Type 0 where
  ◌≐◌ : Bits → Bits → Equation

-- each bit of a is one of b
abbrev pub ◌⊆◌ : Bits → Bits → Equation
a ⊆ b = a ∩ b ≐ a

-- the numbers of the list by their places
abbrev pub a : Bits
a = var 0

abbrev pub b : Bits
b = var 1

abbrev pub c : Bits
c = var 2

abbrev pub d : Bits
d = var 3

abbrev pub e : Bits
e = var 4

abbrev pub value : Bits → List ℕ → ℕ
value none xs = 0
value (var i) xs = get_or xs i 0
value (a ∩ b) xs = bit_and (value a xs) (value b xs)
value (a ∪ b) xs = bit_or (value a xs) (value b xs)
value (a ⊕ b) xs = bit_xor (value a xs) (value b xs)

abbrev pub Says : Equation → List ℕ → Type 0
Says (a ≐ b) xs = value a xs ≡ value b xs

abbrev pub Under : List Equation → Equation → List ℕ → Type 0
Under [] e xs = Says e xs
Under (p ∷ ps) e xs = Says p xs → Under ps e xs

-- ---- the test: at each list of n digits

abbrev pub says : Equation → List ℕ → Bool
says (a ≐ b) xs = eqb (value a xs) (value b xs)

abbrev pub under : List Equation → Equation → List ℕ → Bool
under [] e xs = says e xs
under (p ∷ ps) e xs = cond (says p xs) (under ps e xs) true

abbrev pub each : ℕ → (List ℕ → Bool) → Bool
each zero f = f []
each (suc n) f = each n (λ xs. f (0 ∷ xs)) && each n (λ xs. f (1 ∷ xs))

-- ---- each digit of a value is the value at the digits

get_or_bit : (k : ℕ) (xs : List ℕ) (i : ℕ) → bit k (get_or xs i 0) ≡ get_or (map (bit k) xs) i 0
unfolding bit
get_or_bit k [] i = simp zero-div
get_or_bit k (x ∷ xs) zero = refl
get_or_bit k (x ∷ xs) (suc i) = get_or_bit k xs i

through : (k : ℕ) (e : Bits) (xs : List ℕ) → bit k (value e xs) ≡ value e (map (bit k) xs)
unfolding bit
through k none xs = simp zero-div
through k (var i) xs = get_or_bit k xs i
through k (a ∩ b) xs =
    ap (λ x. x % 2) (and_shr (value a xs) (value b xs) k) ∙ and_mod (value a xs / 2 ^ k) (value b xs / 2 ^ k) 1 ∙ ap₂ bit_and (through k a xs) (through k b xs)
through k (a ∪ b) xs =
    ap (λ x. x % 2) (or_shr (value a xs) (value b xs) k) ∙ or_mod (value a xs / 2 ^ k) (value b xs / 2 ^ k) 1 ∙ ap₂ bit_or (through k a xs) (through k b xs)
through k (a ⊕ b) xs =
    ap (λ x. x % 2) (xor_shr (value a xs) (value b xs) k) ∙ xor_mod (value a xs / 2 ^ k) (value b xs / 2 ^ k) 1 ∙ ap₂ bit_xor (through k a xs) (through k b xs)

-- ---- so what the test says of digits holds of numbers

and_l : (a b : Bool) → T (a && b) → T a
and_l true b t = tt
and_l false b t = t

and_r : (a b : Bool) → T (a && b) → T b
and_r true b t = t
and_r false b t = absurd t

digit : (x : ℕ) → x < 2 → (0 ≡ x) ⊎ (1 ≡ x)
digit zero h = inl refl
digit (suc zero) h = inr refl
digit (suc (suc x)) h = absurd (omega arith)

at : (k : ℕ) (xs : List ℕ) (f : List ℕ → Bool) → T (each (length xs) f) → T (f (map (bit k) xs))
unfolding bit
at k [] f t = t
at k (x ∷ xs) f t =
    let a = each (length xs) (λ ys. f (0 ∷ ys)) in
    let b = each (length xs) (λ ys. f (1 ∷ ys)) in
    elim (digit (bit k x) (omega arith)) [
      | inl e ↦ subst (λ y. T (f (y ∷ map (bit k) xs))) e (at k xs (λ ys. f (0 ∷ ys)) (and_l a b t))
      | inr e ↦ subst (λ y. T (f (y ∷ map (bit k) xs))) e (at k xs (λ ys. f (1 ∷ ys)) (and_r a b t))
    ]

pass : (b c : Bool) → T (cond b c true) → T b → T c
pass true c t u = t
pass false c t u = absurd u

says_bit : (k : ℕ) (e : Equation) (xs : List ℕ) → Says e xs → T (says e (map (bit k) xs))
says_bit k (a ≐ b) xs h = subst (λ y. T (eqb (value a (map (bit k) xs)) y)) (sym (through k a xs) ∙ ap (bit k) h ∙ through k b xs) (eqb_refl (value a (map (bit k) xs)))

bit_says : (e : Equation) (xs : List ℕ) → ((k : ℕ) → T (says e (map (bit k) xs))) → Says e xs
unfolding bit
bit_says (a ≐ b) xs h =
    same_bits (value a xs) (value b xs)
    (λ k. through k a xs ∙ eqb→eq (value a (map (bit k) xs)) (value b (map (bit k) xs)) (h k) ∙ sym (through k b xs))

holds : (ps : List Equation) (e : Equation) (xs : List ℕ) → ((k : ℕ) → T (under ps e (map (bit k) xs))) → Under ps e xs
holds [] e xs h = bit_says e xs h
holds (p ∷ ps) e xs h = λ u. holds ps e xs (λ k. pass (says p (map (bit k) xs)) (under ps e (map (bit k) xs)) (h k) (says_bit k p xs u))

-- with `tt` for the test, at a list that is written out
pub law : (ps : List Equation) (e : Equation) (xs : List ℕ) → T (each (length xs) (under ps e)) → Under ps e xs
law ps e xs t = holds ps e xs (λ k. at k xs (under ps e) t)

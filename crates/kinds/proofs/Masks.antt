-- Limits that are all ones, and what a write under a mask leaves within them.
use Rattle.std.proofs.Common.{◌≡◌, ℕ, zero, suc, ◌+◌, ◌-◌, ◌/◌, ◌%◌, ◌^◌, ◌<◌, ◌≤◌, Bool, true, ◌&&◌, [], ◌∷◌, sym, refl, ap, ◌∙◌, subst, inl, inr, mod-eq_of_lt, pow-suc, arith, pow_pos}
use lib.Bits.{bit_and, bit_or, and_mask, and_shr, and_le_r}
use Rattle.std.proofs.lemmas.Nat.{pow_below}
use Rattle.std.proofs.lemmas.Bool.{cases_lt}
use Rattle.std.proofs.lemmas.Bool.Decides.{nat_tests, Decides-below_and}
use Rattle.kinds.specs.Letters.{all_ones}
use Rattle.kinds.specs.Kinds.{without}
use Rattle.kinds.specs.Laws.{FlagsOnes}
use Rattle.kinds.proofs.Bitwise.{Bits, none, ◌∩◌, ◌∪◌, ◌⊕◌, ◌≐◌, ◌⊆◌, a, b, c, d, e, law}

-- one more than a number that shares no bit with its successor is a power of two
ones_from : (fuel n : ℕ) → n ≤ fuel → bit_and n (n + 1) ≡ 0 → (w : ℕ) × (n + 1 ≡ 2 ^ w)
ones_from zero n h q = (0, omega arith)
ones_from (suc fuel) n h q = go (n % 2) refl (λ r. ones_from fuel (n / 2) (omega arith) r)
  where
    halves : bit_and (n / 2) ((n + 1) / 2) ≡ 0
    halves = sym (and_shr n (n + 1) 1) ∙ ap (λ x. x / 2) q

    even : n % 2 ≡ 0 → n ≡ 0
    even r =
        let same : (n + 1) / 2 ≡ n / 2 = omega arith in
        let z : n / 2 ≡ 0 = sym (law [] (a ∩ a ≐ a) (n / 2 ∷ []) tt) ∙ ap (bit_and (n / 2)) (sym same) ∙ halves in
        omega arith

    go : (r : ℕ) → n % 2 ≡ r → (bit_and (n / 2) (n / 2 + 1) ≡ 0 → (w : ℕ) × (n / 2 + 1 ≡ 2 ^ w)) → (w : ℕ) × (n + 1 ≡ 2 ^ w)
    go zero r half = (0, omega (arith, even r))
    go (suc r) s half =
        let next : (n + 1) / 2 ≡ n / 2 + 1 = omega arith in
        let p = half (ap (bit_and (n / 2)) (sym next) ∙ halves) in
        (suc p.0, omega (arith, p.1, pow-suc 2 p.0))

-- a limit that is all ones is one less than a power of two
pub all_ones_width : (n : ℕ) → all_ones n ≡ true → (w : ℕ) × (n ≡ 2 ^ w - 1)
all_ones_width n h =
    let q : bit_and n (n + 1) ≡ 0 = grind (arith, nat_tests) in
    let p = ones_from n n (omega arith) q in
    (p.0, omega (arith, p.1))

-- its width is from 1 to 16, and each such width gives one
positive : (w : ℕ) → 1 < 2 ^ w → 1 ≤ w
positive zero h = absurd (omega arith)
positive (suc w) h = omega arith

width_small : (w : ℕ) → 2 ^ w ≤ 65536 → w ≤ 16
width_small w h = elim (cases_lt 16 w) [ inl p ↦ absurd (omega (arith, pow_below 16 w p)) | inr p ↦ p ]

abbrev widths : ℕ → Bool
widths zero = true
widths (suc w) = all_ones (2 ^ suc w - 1) && widths w

width_ones : (w : ℕ) → w < 16 → all_ones (2 ^ suc w - 1) ≡ true
width_ones = (Decides-below_and (λ w. all_ones (2 ^ suc w - 1)) (λ w. all_ones (2 ^ suc w - 1) ≡ true) widths (λ w. (λ p. p, λ p. p)) refl (λ w. refl) 16).0 refl

pub flags_ones : FlagsOnes
flags_ones n = (narrow, λ p. back p.0 p.1 p.2 p.3)
  where
    narrow : all_ones n ≡ true → (w : ℕ) × (1 ≤ w) × (w ≤ 16) × (n ≡ 2 ^ w - 1)
    narrow h =
        let low : 1 ≤ n = grind (arith, nat_tests) in
        let high : n ≤ 65535 = grind (arith, nat_tests) in
        let p = all_ones_width n h in
        let pw = pow_pos p.0 in
        (p.0, positive p.0 (omega (arith, p.1)), width_small p.0 (omega (arith, p.1)), p.1)

    back : (w : ℕ) → 1 ≤ w → w ≤ 16 → n ≡ 2 ^ w - 1 → all_ones n ≡ true
    back zero l h p = absurd (omega arith)
    back (suc w) l h p = ap all_ones p ∙ width_ones w h

-- what is at most such a limit has its bits in it, and back
pub within_ones : (n x : ℕ) → all_ones n ≡ true → x ≤ n → bit_and x n ≡ x
within_ones n x h l =
    let p = all_ones_width n h in
    let w = p.0 in
    ap (bit_and x) p.1 ∙ and_mask x w ∙ mod-eq_of_lt (omega (arith, pow_pos w, p.1))

pub le_within : (x n : ℕ) → bit_and x n ≡ x → x ≤ n
le_within x n h = subst (λ y. y ≤ n) h (and_le_r x n)

-- v with the bits of the mask m replaced by those of s
abbrev put : Bits → Bits → Bits → Bits
put m s v = (v ⊕ (v ∩ m)) ∪ s

module _ (n : ℕ) (ones : all_ones n ≡ true) where
  pub or_within : (x y : ℕ) → x ≤ n → y ≤ n → bit_or x y ≤ n
  or_within x y p q =
      le_within _ _ (law (a ⊆ c ∷ b ⊆ c ∷ []) (a ∪ b ⊆ c) (x ∷ y ∷ n ∷ []) tt (within_ones n x ones p) (within_ones n y ones q))

  pub put_within : (m s v : ℕ) → m ≤ n → bit_and s m ≡ s → v ≤ n → bit_or (without v m) s ≤ n
  put_within m s v p i q =
      le_within _ _
      (law (a ⊆ d ∷ b ⊆ a ∷ c ⊆ d ∷ []) (put a b c ⊆ d) (m ∷ s ∷ v ∷ n ∷ []) tt (within_ones n m ones p) i (within_ones n v ones q))

module _ (m s o t : ℕ) where
  -- the bits of two writes in turn lie in both masks
  pub put_inside : bit_and s m ≡ s → bit_and t o ≡ t → bit_and (bit_or (without s o) t) (bit_or m o) ≡ bit_or (without s o) t
  put_inside p q = law (b ⊆ a ∷ d ⊆ c ∷ []) (put c d b ⊆ a ∪ c) (m ∷ s ∷ o ∷ t ∷ []) tt p q

  -- one write in the place of two
  pub put_put : (v : ℕ) → bit_and s m ≡ s → bit_and t o ≡ t → bit_or (without (bit_or (without v m) s) o) t ≡ bit_or (without v (bit_or m o)) (bit_or (without s o) t)
  put_put v p q = law (b ⊆ a ∷ d ⊆ c ∷ []) (put c d (put a b e) ≐ put (a ∪ c) (put c d b) e) (m ∷ s ∷ o ∷ t ∷ v ∷ []) tt p q

-- the masks and the bits of three writes, grouped either way
pub or_assoc : (m o q : ℕ) → bit_or (bit_or m o) q ≡ bit_or m (bit_or o q)
or_assoc m o q = law [] ((a ∪ b) ∪ c ≐ a ∪ (b ∪ c)) (m ∷ o ∷ q ∷ []) tt

pub put_assoc : (s o t q u : ℕ) → bit_or (without (bit_or (without s o) t) q) u ≡ bit_or (without s (bit_or o q)) (bit_or (without t q) u)
put_assoc s o t q u = law [] (put d e (put b c a) ≐ put (b ∪ d) (put d e c) a) (s ∷ o ∷ t ∷ q ∷ u ∷ []) tt

-- an empty mask adds none, and leaves a value as it is
pub or_none : (m : ℕ) → bit_or m 0 ≡ m
or_none m = law [] (a ∪ none ≐ a) (m ∷ []) tt

pub put_none : (v : ℕ) → bit_or (without v 0) 0 ≡ v
put_none v = law [] (put none none a ≐ a) (v ∷ []) tt

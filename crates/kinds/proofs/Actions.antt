-- The plain changes of each letter as a monoid that acts on values: to keep is to add 0, or to write under an empty mask.
use Rattle.std.proofs.Common.{◌≡◌, ℕ, zero, suc, ◌<◌, ◌≤◌, true, cond, leb, ◌⊎◌, ℤ, pos, negsuc, ◌+ℤ◌, nat_abs, Some, None, Option, sym, refl, ap, ◌∙◌, ap₂, inl, inr, arith}
use lib.Bits.{bit_and, bit_or}
use Rattle.std.proofs.lemmas.Int.{ints}
use Rattle.std.proofs.lemmas.Bool.Decides.{nat_tests, leb_tells}
use Rattle.kinds.specs.declared.kind.Letter.{Letter}
use Rattle.kinds.specs.declared.kind.Letter.TheVariants.{Amount, Choice, Flags, Blank}
use Rattle.kinds.specs.declared.change.Change.{Change}
use Rattle.kinds.specs.declared.change.Change.TheVariants.{Keep, Add, Set, Mask}
use Rattle.kinds.specs.Changes.{plain}
use Rattle.kinds.specs.Letters.{proper}
use Rattle.kinds.specs.Kinds.{without, fits, within, after, folded}
use Rattle.kinds.specs.Laws.{TooFar}
use Rattle.kinds.proofs.Masks.{or_none, put_none, put_inside, put_put, put_assoc, or_assoc, or_within, put_within}
use Rattle.kinds.proofs.Clash.{clash}

-- ---- the plain form

pub plain_twice : (e : Change) → plain (plain e) ≡ plain e
plain_twice Keep = refl
plain_twice (Add (pos zero)) = refl
plain_twice (Add (pos (suc n))) = refl
plain_twice (Add (negsuc n)) = refl
plain_twice (Set w) = refl
plain_twice (Mask m s) = grind (arith, nat_tests)

-- an addition is plain, or adds 0
pub add_plain : (d : ℤ) → ((d ≡ pos 0) × (plain (Add d) ≡ Keep)) ⊎ (plain (Add d) ≡ Add d)
add_plain (pos zero) = inl (refl, refl)
add_plain (pos (suc n)) = inr refl
add_plain (negsuc n) = inr refl

-- a write is plain, or has an empty mask and no bits
pub mask_plain : (m s : ℕ) → ((m ≡ 0) × (s ≡ 0) × (plain (Mask m s) ≡ Keep)) ⊎ (plain (Mask m s) ≡ Mask m s)
mask_plain m s = grind (arith, nat_tests)

-- ---- the monoid of each letter

pub data Action : Letter → Type 0 where
  amount : ℤ → Action Amount
  stays : Action Choice
  chosen : ℕ → Action Choice
  flags : ℕ → ℕ → Action Flags
  still : Action Blank

-- one and then the other
abbrev pub both : {x : Letter} → Action x → Action x → Action x
both (amount c) (amount d) = amount (c +ℤ d)
both stays stays = stays
both stays (chosen u) = chosen u
both (chosen w) stays = chosen w
both (chosen w) (chosen u) = chosen u
both (flags m s) (flags o t) = flags (bit_or m o) (bit_or (without s o) t)
both still still = still

-- the plain change that does it
abbrev pub change : {x : Letter} → Action x → Change
change (amount d) = plain (Add d)
change stays = Keep
change (chosen w) = Set w
change (flags m s) = plain (Mask m s)
change still = Keep

-- it lies within the limit
abbrev pub Small : {x : Letter} → ℕ → Action x → Type 0
Small n (amount d) = nat_abs d ≤ n
Small n stays = Unit {0}
Small n (chosen w) = w ≤ n
Small n (flags m s) = (m ≤ n) × (bit_and s m ≡ s)
Small n still = Unit {0}

pub both_assoc : {x : Letter} (a b c : Action x) → both (both a b) c ≡ both a (both b c)
both_assoc (amount a) (amount b) (amount c) = ap amount (omega (arith, ints))
both_assoc stays stays stays = refl
both_assoc stays stays (chosen c) = refl
both_assoc stays (chosen b) stays = refl
both_assoc stays (chosen b) (chosen c) = refl
both_assoc (chosen a) stays stays = refl
both_assoc (chosen a) stays (chosen c) = refl
both_assoc (chosen a) (chosen b) stays = refl
both_assoc (chosen a) (chosen b) (chosen c) = refl
both_assoc (flags m s) (flags o t) (flags q u) = ap₂ flags (or_assoc m o q) (put_assoc s o t q u)
both_assoc still still still = refl

-- ---- the changes of a letter's kind are its small actions

pub action_of : (x : Letter) (n : ℕ) (e : Change) → fits x n e ≡ true → plain e ≡ e → (a : Action x) × Small n a × (e ≡ change a)
action_of Amount n Keep h p = (amount (pos 0), omega arith, refl)
action_of Choice n Keep h p = (stays, tt, refl)
action_of Flags n Keep h p = (flags 0 0, (omega arith, refl), refl)
action_of Blank n Keep h p = (still, tt, refl)
action_of Amount n (Add d) h p = (amount d, grind (arith, nat_tests), sym p)
action_of Choice n (Add d) h p = clash (cc h)
action_of Flags n (Add d) h p = clash (cc h)
action_of Blank n (Add d) h p = clash (cc h)
action_of Amount n (Set w) h p = clash (cc h)
action_of Choice n (Set w) h p = (chosen w, grind (arith, nat_tests), refl)
action_of Flags n (Set w) h p = clash (cc h)
action_of Blank n (Set w) h p = clash (cc h)
action_of Amount n (Mask m s) h p = clash (cc h)
action_of Choice n (Mask m s) h p = clash (cc h)
action_of Flags n (Mask m s) h p = (flags m s, (grind (arith, nat_tests), grind (arith, nat_tests)), sym p)
action_of Blank n (Mask m s) h p = clash (cc h)

pub change_plain : {x : Letter} (a : Action x) → plain (change a) ≡ change a
change_plain (amount d) = plain_twice (Add d)
change_plain stays = refl
change_plain (chosen w) = refl
change_plain (flags m s) = plain_twice (Mask m s)
change_plain still = refl

pub change_fits : (x : Letter) (n : ℕ) (a : Action x) → Small n a → fits x n (change a) ≡ true
change_fits x n (amount (pos zero)) h = refl
change_fits x n (amount (pos (suc d))) h = grind (arith, nat_tests)
change_fits x n (amount (negsuc d)) h = grind (arith, nat_tests)
change_fits x n stays h = refl
change_fits x n (chosen w) h = grind (arith, nat_tests)
change_fits x n (flags m s) h = elim (mask_plain m s) [
  | inl p ↦ ap (fits Flags n) p.2
  | inr p ↦ ap (fits Flags n) p ∙ grind (arith, nat_tests)
]
change_fits x n still h = refl

-- ---- what they do to values

-- a sum lies within the limit where it is a value of the kind
pub within_some : (n : ℕ) (z : ℤ) (v : ℕ) → within n z ≡ Some v → (v ≤ n) × (z ≡ pos v)
within_some n (pos u) v h = grind (arith, nat_tests)
within_some n (negsuc u) v h = clash (cc h)

pub some_within : (n : ℕ) (z : ℤ) (v : ℕ) → v ≤ n → z ≡ pos v → within n z ≡ Some v
some_within n z v h p = ap (within n) p ∙ (let t : leb v n ≡ true = grind (arith, nat_tests) in ap (λ b. cond b (Some v) None) t)

pub after_add : (n : ℕ) (d : ℤ) (v : ℕ) → v ≤ n → after n (plain (Add d)) v ≡ within n (pos v +ℤ d)
after_add n d v h = elim (add_plain d) [
  | inl p ↦ ap (λ e. after n e v) p.1 ∙ sym (some_within n (pos v +ℤ d) v h (ap (λ z. pos v +ℤ z) p.0 ∙ omega (arith, ints)))
  | inr p ↦ ap (λ e. after n e v) p
]

pub after_mask : (n m s v : ℕ) → after n (plain (Mask m s)) v ≡ Some (bit_or (without v m) s)
after_mask n m s v = elim (mask_plain m s) [
  | inl p ↦ ap (λ e. after n e v) p.2 ∙ ap Some (sym (put_none v) ∙ ap₂ (λ x y. bit_or (without v x) y) (sym p.0) (sym p.1))
  | inr p ↦ ap (λ e. after n e v) p
]

-- ---- what they fold to

-- the sum of two amounts, where it is small
abbrev pub summed : ℕ → ℤ → Option Change
summed n z = cond (leb (nat_abs z) n) (Some (plain (Add z))) None

some_summed : (n : ℕ) (z : ℤ) → nat_abs z ≤ n → Some (plain (Add z)) ≡ summed n z
some_summed n z h = let t : leb (nat_abs z) n ≡ true = grind (arith, nat_tests) in ap (λ b. cond b (Some (plain (Add z))) None) (sym t)

pub folded_add : (n : ℕ) (c d : ℤ) → nat_abs c ≤ n → nat_abs d ≤ n → folded n (plain (Add c)) (plain (Add d)) ≡ summed n (c +ℤ d)
folded_add n c d h i = elim (add_plain c) [
  | inl p ↦
      let c_is : c ≡ pos 0 = p.0 in
      let same : d ≡ c +ℤ d = omega (arith, ints) in
      ap (λ e. folded n e (plain (Add d))) p.1 ∙ some_summed n d i ∙ ap (summed n) same
  | inr p ↦ elim (add_plain d) [
    | inl q ↦
        let d_is : d ≡ pos 0 = q.0 in
        let same : c ≡ c +ℤ d = omega (arith, ints) in
        ap₂ (folded n) p q.1 ∙ ap Some (sym p) ∙ some_summed n c h ∙ ap (summed n) same
    | inr q ↦ ap₂ (folded n) p q
  ]
]

pub folded_mask : (n m s o t : ℕ) → folded n (plain (Mask m s)) (plain (Mask o t)) ≡ Some (plain (Mask (bit_or m o) (bit_or (without s o) t)))
folded_mask n m s o t = elim (mask_plain m s) [
  | inl p ↦
      ap (λ e. folded n e (plain (Mask o t))) p.2 ∙ ap₂ (λ x y. Some (plain (Mask (bit_or x o) (bit_or (without y o) t)))) (sym p.0) (sym p.1)
  | inr p ↦ elim (mask_plain o t) [
    | inl q ↦
        ap₂ (folded n) p q.2 ∙ ap Some (sym p ∙ ap₂ (λ x y. plain (Mask x y)) (sym (or_none m)) (sym (put_none s)))
        ∙ ap₂ (λ x y. Some (plain (Mask (bit_or m x) (bit_or (without s x) y)))) (sym q.0) (sym q.1)
    | inr q ↦ ap₂ (folded n) p q
  ]
]

summed_some : (n : ℕ) (z : ℤ) (g : Change) → summed n z ≡ Some g → (g ≡ plain (Add z)) × (nat_abs z ≤ n)
summed_some n z g h = elim (leb_tells (nat_abs z) n) [
  | inl p ↦ (cc (sym h ∙ ap (λ b. cond b (Some (plain (Add z))) None) p.0), p.1)
  | inr p ↦ clash (cc (sym h ∙ ap (λ b. cond b (Some (plain (Add z))) None) p.0))
]

-- ---- the fold of two actions is one and then the other

-- a fold that is present
pub folded_some : (x : Letter) (n : ℕ) → proper x n ≡ true → (a b : Action x) → Small n a → Small n b → (g : Change) → folded n (change a) (change b) ≡ Some g → (g ≡ change (both a b)) × Small n (both a b)
folded_some x n l (amount c) (amount d) h i g p = summed_some n (c +ℤ d) g (sym (folded_add n c d h i) ∙ p)
folded_some x n l stays stays h i g p = (cc p, tt)
folded_some x n l stays (chosen u) h i g p = (cc p, i)
folded_some x n l (chosen w) stays h i g p = (cc p, h)
folded_some x n l (chosen w) (chosen u) h i g p = (cc p, i)
folded_some x n l (flags m s) (flags o t) h i g p =
    let q = sym p ∙ folded_mask n m s o t in
    (cc q, (or_within n l m o h.0 i.0, put_inside m s o t h.1 i.1))
folded_some x n l still still h i g p = (cc p, tt)

-- what takes a value to a value is small
difference_small : (n : ℕ) (z : ℤ) (v w : ℕ) → v ≤ n → w ≤ n → pos v +ℤ z ≡ pos w → nat_abs z ≤ n
difference_small n (pos u) v w h i p = omega (arith, ints)
difference_small n (negsuc u) v w h i p = omega (arith, ints)

-- where they apply in turn, their fold is present and does the same
pub folded_acts : (x : Letter) (n : ℕ) (a b : Action x) → Small n a → Small n b → (v v1 v2 : ℕ) → v ≤ n → after n (change a) v ≡ Some v1 → after n (change b) v1 ≡ Some v2 → (folded n (change a) (change b) ≡ Some (change (both a b))) × (after n (change (both a b)) v ≡ Some v2)
folded_acts x n (amount c) (amount d) h i v v1 v2 l p q =
    let first = within_some n (pos v +ℤ c) v1 (sym (after_add n c v l) ∙ p) in
    let second = within_some n (pos v1 +ℤ d) v2 (sym (after_add n d v1 first.0) ∙ q) in
    let r : pos v +ℤ c ≡ pos v1 = first.1 in
    let s : pos v1 +ℤ d ≡ pos v2 = second.1 in
    let t : pos v +ℤ (c +ℤ d) ≡ pos v2 = omega (arith, ints) in (
      folded_add n c d h i ∙ sym (some_summed n (c +ℤ d) (difference_small n (c +ℤ d) v v2 l second.0 t)),
      after_add n (c +ℤ d) v l ∙ some_within n (pos v +ℤ (c +ℤ d)) v2 second.0 t,
    )
folded_acts x n stays stays h i v v1 v2 l p q = (refl, p ∙ q)
folded_acts x n stays (chosen u) h i v v1 v2 l p q = (refl, q)
folded_acts x n (chosen w) stays h i v v1 v2 l p q = (refl, p ∙ q)
folded_acts x n (chosen w) (chosen u) h i v v1 v2 l p q = (refl, q)
folded_acts x n (flags m s) (flags o t) h i v v1 v2 l p q =
    let r : v1 ≡ bit_or (without v m) s = cc (sym (after_mask n m s v) ∙ p) in (
      folded_mask n m s o t,
      after_mask n (bit_or m o) (bit_or (without s o) t) v ∙ ap Some (sym (put_put m s o t v h.1 i.1) ∙ ap (λ y. bit_or (without y o) t) (sym r))
          ∙ sym (after_mask n o t v1) ∙ q,
    )
folded_acts x n still still h i v v1 v2 l p q = (refl, p ∙ q)

-- values within the limit stay there
pub after_within : (x : Letter) (n : ℕ) → proper x n ≡ true → (a : Action x) → Small n a → (v w : ℕ) → v ≤ n → after n (change a) v ≡ Some w → w ≤ n
after_within x n l (amount d) h v w i p = (within_some n (pos v +ℤ d) w (sym (after_add n d v i) ∙ p)).0
after_within x n l stays h v w i p = let q : v ≡ w = cc p in omega arith
after_within x n l (chosen u) h v w i p = let q : u ≡ w = cc p in omega arith
after_within x n l (flags m s) h v w i p =
    let q : bit_or (without v m) s ≡ w = cc (sym (after_mask n m s v) ∙ p) in
    omega (arith, put_within n l m s v h.0 h.1 i)
after_within x n l still h v w i p = let q : v ≡ w = cc p in omega arith

-- ---- where the fold of two actions is absent

summed_none : (n : ℕ) (z : ℤ) → summed n z ≡ None → n < nat_abs z
summed_none n z h = elim (leb_tells (nat_abs z) n) [
  | inl p ↦ clash (cc (sym h ∙ ap (λ b. cond b (Some (plain (Add z))) None) p.0))
  | inr p ↦ p.1
]

-- an amount that takes another past the limit is not 0
moves_left : (n : ℕ) (c d : ℤ) → nat_abs d ≤ n → n < nat_abs (c +ℤ d) → plain (Add c) ≡ Add c
moves_left n c d h i = elim (add_plain c) [
  | inl p ↦ absurd (let c_is : c ≡ pos 0 = p.0 in let same : c +ℤ d ≡ d = omega (arith, ints) in let q = ap nat_abs same in omega arith)
  | inr p ↦ p
]

moves_right : (n : ℕ) (c d : ℤ) → nat_abs c ≤ n → n < nat_abs (c +ℤ d) → plain (Add d) ≡ Add d
moves_right n c d h i = elim (add_plain d) [
  | inl p ↦ absurd (let d_is : d ≡ pos 0 = p.0 in let same : c +ℤ d ≡ c = omega (arith, ints) in let q = ap nat_abs same in omega arith)
  | inr p ↦ p
]

pub folded_none : (x : Letter) (n : ℕ) (a b : Action x) → Small n a → Small n b → folded n (change a) (change b) ≡ None → TooFar n (change a) (change b)
folded_none x n (amount c) (amount d) h i p =
    let q = summed_none n (c +ℤ d) (sym (folded_add n c d h i) ∙ p) in
    (c, d, moves_left n c d i q, moves_right n c d h q, q)
folded_none x n stays stays h i p = clash (cc p)
folded_none x n stays (chosen u) h i p = clash (cc p)
folded_none x n (chosen w) stays h i p = clash (cc p)
folded_none x n (chosen w) (chosen u) h i p = clash (cc p)
folded_none x n (flags m s) (flags o t) h i p = clash (cc (sym (folded_mask n m s o t) ∙ p))
folded_none x n still still h i p = clash (cc p)

-- an addition of a kind is small
pub small_add : (x : Letter) (n : ℕ) (d : ℤ) → fits x n (plain (Add d)) ≡ true → nat_abs d ≤ n
small_add x n d h = elim (add_plain d) [
  | inl p ↦ let q = ap nat_abs p.0 in omega arith
  | inr p ↦ go x (sym (ap (fits x n) p) ∙ h)
]
  where
    go : (x : Letter) → fits x n (Add d) ≡ true → nat_abs d ≤ n
    go Amount q = grind (arith, nat_tests)
    go Choice q = clash (cc q)
    go Flags q = clash (cc q)
    go Blank q = clash (cc q)

-- what has an addition as its plain form is that addition
pub plain_is_add : (e : Change) (c : ℤ) → plain e ≡ Add c → e ≡ Add c
plain_is_add Keep c p = p
plain_is_add (Add d) c p = elim (add_plain d) [
  | inl q ↦ clash (cc (sym q.1 ∙ p))
  | inr q ↦ sym q ∙ p
]
plain_is_add (Set w) c p = p
plain_is_add (Mask m s) c p = elim (mask_plain m s) [
  | inl q ↦ clash (cc (sym q.2 ∙ p))
  | inr q ↦ sym q ∙ p
]

-- keep folds away on the right
pub folded_keep : (n : ℕ) (e : Change) → folded n e Keep ≡ Some e
folded_keep n Keep = refl
folded_keep n (Add d) = refl
folded_keep n (Set w) = refl
folded_keep n (Mask m s) = refl

-- When characters spell bytes, and which.
use Rattle.std.proofs.Common.{◌≡◌, ℕ, suc, ◌+◌, ◌*◌, ◌/◌, ◌%◌, ◌<◌, Bool, true, false, ◌&&◌, eqb, List, [], ◌∷◌, ◌++◌, map, length, get_or, take, drop, set, is_some, Some, None, Option, unwrap_or, sym, refl, ap, ◌∙◌, append_assoc, arith}
use Rattle.std.proofs.lemmas.List.{take_more, drop_more, set_at, length-take-le}
use Rattle.std.proofs.lemmas.Bool.Decides.{nat_tests}
use Rattle.std.specs.List.{list_all}
use Rattle.std.specs.Simd.{first_chunks}
use Rattle.frames.specs.Lines.{digit, byte, joined, bytes_of, character, characters}

abbrev pub value : ℕ → ℕ
value c = unwrap_or (digit c) 0

-- the bytes of the pairs of characters, where each is a digit
abbrev pub pairs : List ℕ → List ℕ
pairs [] = []
pairs (c ∷ []) = []
pairs (c ∷ d ∷ cs) = (value c * 16 + value d) ∷ pairs cs

pub length_pairs : (cs : List ℕ) → length (pairs cs) ≡ length cs / 2
length_pairs [] = refl
length_pairs (c ∷ []) = omega arith
length_pairs (c ∷ d ∷ cs) = omega (arith, length_pairs cs)

-- the byte of two characters
abbrev pub byte_of : List ℕ → ℕ
byte_of two = value (get_or two 0 0) * 16 + value (get_or two 1 0)

-- the pairs are the characters in chunks of two
pub chunked : (cs : List ℕ) → map byte_of (first_chunks 2 (length cs / 2) cs) ≡ pairs cs
chunked [] = refl
chunked (c ∷ []) = refl
chunked (c ∷ d ∷ cs) =
    let half : suc (suc (length cs)) / 2 ≡ suc (length cs / 2) = omega arith in
    ap (λ n. map byte_of (first_chunks 2 n (c ∷ d ∷ cs))) half ∙ ap (◌∷◌ (value c * 16 + value d)) (chunked cs)

-- two characters before others spell bytes if each is a digit and the others do
joined_some : (o p : Option ℕ) (q : Option (List ℕ)) → is_some (joined (byte o p) q) ≡ (is_some o && (is_some p && is_some q))
joined_some None p q = refl
joined_some (Some h) None q = refl
joined_some (Some h) (Some l) None = refl
joined_some (Some h) (Some l) (Some bs) = refl

-- characters spell bytes exactly where their count is even and each is a digit
pub digits_spell : (cs : List ℕ) → is_some (bytes_of cs) ≡ (eqb (length cs % 2) 0 && list_all (λ c. is_some (digit c)) cs)
digits_spell [] = refl
digits_spell (c ∷ []) = refl
digits_spell (c ∷ d ∷ cs) =
    let even : suc (suc (length cs)) % 2 ≡ length cs % 2 = omega arith in
    joined_some (digit c) (digit d) (bytes_of cs)
    ∙ ap (λ b. is_some (digit c) && (is_some (digit d) && b)) (digits_spell cs)
    ∙ each_even (is_some (digit c)) (is_some (digit d)) (eqb (length cs % 2) 0) _
    ∙ ap (λ n. eqb n 0 && (is_some (digit c) && (is_some (digit d) && list_all (λ c. is_some (digit c)) cs))) (sym even)
  where
    each_even : (h l e a : Bool) → (h && (l && (e && a))) ≡ (e && (h && (l && a)))
    each_even true true e a = refl
    each_even true false true a = refl
    each_even true false false a = refl
    each_even false l true a = refl
    each_even false l false a = refl

-- what a byte before bytes is made of
pub record Begun (o p : Option ℕ) (q : Option (List ℕ)) (bs : List ℕ) : Type 0 where
  pub high : ℕ
  pub low : ℕ
  pub rest : List ℕ
  pub high_is : o ≡ Some high
  pub low_is : p ≡ Some low
  pub rest_is : q ≡ Some rest
  pub whole : bs ≡ (high * 16 + low) ∷ rest

pub begun : (o p : Option ℕ) (q : Option (List ℕ)) (bs : List ℕ) → joined (byte o p) q ≡ Some bs → Begun o p q bs
begun None p q bs e = absurd (let z : ◌≡◌ {A = ℕ} 0 1 = cc in omega arith)
begun (Some h) None q bs e = absurd (let z : ◌≡◌ {A = ℕ} 0 1 = cc in omega arith)
begun (Some h) (Some l) None bs e = absurd (let z : ◌≡◌ {A = ℕ} 0 1 = cc in omega arith)
begun (Some h) (Some l) (Some t) bs e = record { high = h; low = l; rest = t; high_is = refl; low_is = refl; rest_is = refl; whole = cc }

-- what characters spell is the bytes of their pairs
pub spelt_is : (cs bs : List ℕ) → bytes_of cs ≡ Some bs → bs ≡ pairs cs
spelt_is [] bs e = cc
spelt_is (c ∷ []) bs e = absurd (let z : ◌≡◌ {A = ℕ} 0 1 = cc in omega arith)
spelt_is (c ∷ d ∷ cs) bs e =
    let b = begun (digit c) (digit d) (bytes_of cs) bs e in
    let t = spelt_is cs b.rest b.rest_is in
    let h : value c ≡ b.high = ap (λ o. unwrap_or o 0) b.high_is in
    let l : value d ≡ b.low = ap (λ o. unwrap_or o 0) b.low_is in
    b.whole ∙ (λ i. (sym h i * 16 + sym l i) ∷ t i)

-- one byte more at the front of a buffer
pub one_more : (bs buffer : List ℕ) (i v : ℕ) → i < length bs → i < length buffer → v ≡ get_or bs i 0 → set (take i bs ++ drop i buffer) i v ≡ take (i + 1) bs ++ drop (i + 1) buffer
one_more bs buffer i v within room is =
    ap (λ l. set (take i bs ++ l) i v) (drop_more buffer i 0 room)
    ∙ set_at (take i bs) _ _ v i (length-take-le i bs (omega arith))
    ∙ ap (λ w. take i bs ++ w ∷ drop (i + 1) buffer) is
    ∙ sym (ap (λ l. l ++ drop (i + 1) buffer) (take_more bs i 0 within) ∙ append_assoc (take i bs) (get_or bs i 0 ∷ []) (drop (i + 1) buffer))

character_digit : (c h : ℕ) → digit c ≡ Some h → (character h ≡ c) × (h < 16)
character_digit c h e = (grind (arith, nat_tests), grind (arith, nat_tests))

-- the characters of what characters spell are those
pub spells_back : (cs bs : List ℕ) → bytes_of cs ≡ Some bs → characters bs ≡ cs
spells_back [] bs e = ap characters (spelt_is [] bs e)
spells_back (c ∷ []) bs e = absurd (let z : ◌≡◌ {A = ℕ} 0 1 = cc in omega arith)
spells_back (c ∷ d ∷ cs) bs e =
    let b = begun (digit c) (digit d) (bytes_of cs) bs e in
    let t = spells_back cs b.rest b.rest_is in
    let h = character_digit c b.high b.high_is in
    let l = character_digit d b.low b.low_is in
    let upper : (b.high * 16 + b.low) / 16 ≡ b.high = omega arith in
    let lower : (b.high * 16 + b.low) % 16 ≡ b.low = omega arith in
    ap characters b.whole ∙ (λ i. character (upper i) ∷ character (lower i) ∷ characters b.rest) ∙ (λ i. h.0 i ∷ l.0 i ∷ t i)

pub none_from : {X : Type 0} (o : Option X) → is_some o ≡ false → o ≡ None
none_from None e = refl
none_from (Some x) e = absurd (let z : ◌≡◌ {A = ℕ} 0 1 = cc in omega arith)

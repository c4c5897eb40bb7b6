-- Three lists of one length whose items stand in a relation, place by place.
use Rattle.std.proofs.Common.{◌≡◌, ℕ, zero, suc, ◌<◌, List, [], ◌∷◌, length, set, Some, refl, ap, arith}
use Rattle.std.specs.List.{insert, remove}
use Rattle.documents.specs.Documents.{item, moved}
use Rattle.documents.proofs.Places.{moved_is}

module _ {X Y Z : Type 0} (P : X → Y → Z → Type 0) where
  abbrev pub Three : List X → List Y → List Z → Type 0
  Three [] [] [] = Unit {0}
  Three [] [] (z ∷ zs) = ⊥
  Three [] (y ∷ ys) zs = ⊥
  Three (x ∷ xs) [] zs = ⊥
  Three (x ∷ xs) (y ∷ ys) [] = ⊥
  Three (x ∷ xs) (y ∷ ys) (z ∷ zs) = P x y z × Three xs ys zs

  pub three_inserted : (xs : List X) (ys : List Y) (zs : List Z) (n : ℕ) (x : X) (y : Y) (z : Z) → Three xs ys zs → P x y z →
      Three (insert xs n x) (insert ys n y) (insert zs n z)
  three_inserted xs ys zs zero x y z h p = (p, h)
  three_inserted [] [] [] (suc n) x y z h p = (p, tt)
  three_inserted [] [] (c ∷ zs) (suc n) x y z h p = absurd h
  three_inserted [] (b ∷ ys) zs (suc n) x y z h p = absurd h
  three_inserted (a ∷ xs) [] zs (suc n) x y z h p = absurd h
  three_inserted (a ∷ xs) (b ∷ ys) [] (suc n) x y z h p = absurd h
  three_inserted (a ∷ xs) (b ∷ ys) (c ∷ zs) (suc n) x y z h p = (h.0, three_inserted xs ys zs n x y z h.1 p)

  pub three_removed : (xs : List X) (ys : List Y) (zs : List Z) (n : ℕ) → Three xs ys zs → Three (remove xs n) (remove ys n) (remove zs n)
  three_removed [] [] [] zero h = tt
  three_removed [] [] [] (suc n) h = tt
  three_removed [] [] (c ∷ zs) n h = absurd h
  three_removed [] (b ∷ ys) zs n h = absurd h
  three_removed (a ∷ xs) [] zs n h = absurd h
  three_removed (a ∷ xs) (b ∷ ys) [] n h = absurd h
  three_removed (a ∷ xs) (b ∷ ys) (c ∷ zs) zero h = h.1
  three_removed (a ∷ xs) (b ∷ ys) (c ∷ zs) (suc n) h = (h.0, three_removed xs ys zs n h.1)

  pub three_set : (xs : List X) (ys : List Y) (zs : List Z) (n : ℕ) (x : X) (y : Y) (z : Z) → Three xs ys zs → P x y z →
      Three (set xs n x) (set ys n y) (set zs n z)
  three_set [] [] [] n x y z h p = tt
  three_set [] [] (c ∷ zs) n x y z h p = absurd h
  three_set [] (b ∷ ys) zs n x y z h p = absurd h
  three_set (a ∷ xs) [] zs n x y z h p = absurd h
  three_set (a ∷ xs) (b ∷ ys) [] n x y z h p = absurd h
  three_set (a ∷ xs) (b ∷ ys) (c ∷ zs) zero x y z h p = (p, h.1)
  three_set (a ∷ xs) (b ∷ ys) (c ∷ zs) (suc n) x y z h p = (h.0, three_set xs ys zs n x y z h.1 p)

  -- the three items at a place of the first list
  pub record Seen (xs : List X) (ys : List Y) (zs : List Z) (n : ℕ) : Type 0 where
    pub x : X
    pub y : Y
    pub z : Z
    pub x_is : item xs n ≡ Some x
    pub y_is : item ys n ≡ Some y
    pub z_is : item zs n ≡ Some z
    pub holds : P x y z

  pub three_seen : (xs : List X) (ys : List Y) (zs : List Z) (n : ℕ) → Three xs ys zs → n < length xs → Seen xs ys zs n
  three_seen [] [] [] n h l = absurd (omega arith)
  three_seen [] [] (c ∷ zs) n h l = absurd h
  three_seen [] (b ∷ ys) zs n h l = absurd h
  three_seen (a ∷ xs) [] zs n h l = absurd h
  three_seen (a ∷ xs) (b ∷ ys) [] n h l = absurd h
  three_seen (a ∷ xs) (b ∷ ys) (c ∷ zs) zero h l = record { x = a; y = b; z = c; x_is = refl; y_is = refl; z_is = refl; holds = h.0 }
  three_seen (a ∷ xs) (b ∷ ys) (c ∷ zs) (suc n) h l =
      let s = three_seen xs ys zs n h.1 (omega arith) in
      record { x = s.x; y = s.y; z = s.z; x_is = s.x_is; y_is = s.y_is; z_is = s.z_is; holds = s.holds }

  pub three_lengths : (xs : List X) (ys : List Y) (zs : List Z) → Three xs ys zs → (length xs ≡ length ys) × (length zs ≡ length ys)
  three_lengths [] [] [] h = (refl, refl)
  three_lengths [] [] (c ∷ zs) h = absurd h
  three_lengths [] (b ∷ ys) zs h = absurd h
  three_lengths (a ∷ xs) [] zs h = absurd h
  three_lengths (a ∷ xs) (b ∷ ys) [] h = absurd h
  three_lengths (a ∷ xs) (b ∷ ys) (c ∷ zs) h = let s = three_lengths xs ys zs h.1 in (ap suc s.0, ap suc s.1)

  pub three_moved : (xs : List X) (ys : List Y) (zs : List Z) (i j : ℕ) → Three xs ys zs → i < length xs →
      Three (moved xs i j) (moved ys i j) (moved zs i j)
  three_moved xs ys zs i j h l =
      let s = three_seen xs ys zs i h l in
      rw (moved_is xs i j s.x s.x_is, moved_is ys i j s.y s.y_is, moved_is zs i j s.z s.z_is)
      (three_inserted (remove xs i) (remove ys i) (remove zs i) j s.x s.y s.z (three_removed xs ys zs i h) s.holds)

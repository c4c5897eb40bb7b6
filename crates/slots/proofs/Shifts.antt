-- What a copy of a part of the table by one slot does to the items in front of it.
use Rattle.std.proofs.Common.{◌≡◌, ℕ, ◌+◌, ◌-◌, ◌<◌, ◌≤◌, List, ◌++◌, length, get_or, take, drop, set, sym, ap, ◌∙◌, add-one, arith, rules}
use lib.Seq.{paste, take-set-lt}
use Rattle.std.specs.List.{insert, remove, AllByRecursion}
use Rattle.std.proofs.lemmas.List.{places, same_lists, get_or-take, get_or-set_same, set_split, length-take}
use Rattle.std.proofs.ByRecursion.{All-append, All-take, All-drop}
use Rattle.std.proofs.lemmas.Bool.{cases_eq}
use Rattle.slots.specs.Slots.{moved}
use Rattle.slots.proofs.Slots.{moved_is}

-- what holds of each slot holds of each after a part of the table is copied to another place
pub all_copied : {X : Type 0} (P : X → Type 0) (xs : List X) (a b n : ℕ) → AllByRecursion P xs → AllByRecursion P (paste xs a (drop b xs) n)
all_copied P xs a b n h =
    All-append P _ _ (All-append P _ _ (All-take P a xs h) (All-take P n _ (All-drop P b xs h))) (All-drop P (a + n) xs h)

-- the items from `at` on one slot up, and x at `at`
pub inserts : {X : Type 0} (xs : List X) (n at : ℕ) (x : X) → at ≤ n → n < length xs → take (n + 1) (set (paste xs (at + 1) (drop at xs) (n - at)) at x) ≡ insert (take n xs) at x
inserts xs n at x le lt = same_lists _ _ (search (rules, places)) (λ k d h. grind (arith, places, get_or-set_same, cases_eq k at))

-- the items past `at` one slot down
pub removes : {X : Type 0} (xs : List X) (n at : ℕ) → at < n → n ≤ length xs → take (n - 1) (paste xs at (drop (at + 1) xs) (n - (at + 1))) ≡ remove (take n xs) at
removes xs n at lt le = same_lists _ _ (search (rules, places)) (λ k d h. grind (arith, places))

-- what lies past a place at or after that of the item removed
past_after : {X : Type 0} (xs : List X) (from to : ℕ) → from ≤ to → from < length xs → drop to (remove xs from) ≡ drop (to + 1) xs
past_after xs from to le lt = same_lists _ _ (search (rules, places)) (λ k d h. grind (arith, places))

-- what lies past a place at or before that of the item removed
past_before : {X : Type 0} (xs : List X) (from to : ℕ) → to ≤ from → from < length xs → drop to (remove xs from) ≡ take (from - to) (drop to xs) ++ drop (from + 1) xs
past_before xs from to le lt = same_lists _ _ (search (rules, places)) (λ k d h. grind (arith, places))

-- x written at a place, as an insertion there into the list r
written : {X : Type 0} (ys r : List X) (at : ℕ) (x : X) → at < length ys → take at ys ≡ take at r → drop (at + 1) ys ≡ drop at r → set ys at x ≡ insert r at x
written ys r at x lt front rest = set_split ys at x lt ∙ rw (← add-one at, front, rest)

module _ {X : Type 0} (xs : List X) (from to : ℕ) (d : X) where
  -- the items past `from` up to `to` one slot down, and the item that was at `from` at `to`
  moved_up : from < to → to < length xs → set (paste xs from (drop (from + 1) xs) (to + 1 - (from + 1))) to (get_or xs from d) ≡ moved xs from to
  moved_up lt le =
      let ys : List X = paste xs from (drop (from + 1) xs) (to + 1 - (from + 1)) in
      written ys (remove xs from) to (get_or xs from d) (search (rules, places))
      (same_lists _ _ (search (rules, places)) (λ k z h. grind (arith, places)))
      (same_lists _ (drop (to + 1) xs) (search (rules, places)) (λ k z h. grind (arith, places)) ∙ sym (past_after xs from to (omega arith) (omega arith)))
      ∙ sym (moved_is xs from to d (omega arith))

  -- the items from `to` up to `from` one slot up, and the item that was at `from` at `to`
  moved_down : to ≤ from → from < length xs → set (paste xs (to + 1) (drop to xs) (from - to)) to (get_or xs from d) ≡ moved xs from to
  moved_down le lt =
      let ys : List X = paste xs (to + 1) (drop to xs) (from - to) in
      written ys (remove xs from) to (get_or xs from d) (search (rules, places))
      (same_lists _ _ (search (rules, places)) (λ k z h. grind (arith, places)))
      (same_lists _ (take (from - to) (drop to xs) ++ drop (from + 1) xs) (search (rules, places)) (λ k z h. grind (arith, places)) ∙ sym (past_before xs from to le lt))
      ∙ sym (moved_is xs from to d lt)

-- the front of the table after a part of that front is copied inside it
front_copied : {X : Type 0} (xs : List X) (n a b m : ℕ) → a + m ≤ length (take n xs) → b + m ≤ length (take n xs) → take n (paste xs a (drop b xs) m) ≡ paste (take n xs) a (drop b (take n xs)) m
front_copied xs n a b m ha hb =
    let l = length-take n xs in
    same_lists _ _ (search (rules, places)) (λ k d h. grind (arith, places))

-- the same, with the item that was at `from` written at `to`
front_moved : {X : Type 0} (xs : List X) (n a b m from to : ℕ) (d : X) → a + m ≤ length (take n xs) → b + m ≤ length (take n xs) → from < length (take n xs) → to < length (take n xs)
    → take n (set (paste xs a (drop b xs) m) to (get_or xs from d)) ≡ set (paste (take n xs) a (drop b (take n xs)) m) to (get_or (take n xs) from d)
front_moved xs n a b m from to d ha hb hf ht =
    let l = length-take n xs in
    take-set-lt n _ to _ (omega arith)
    ∙ ap (λ ys. set ys to (get_or xs from d)) (front_copied xs n a b m ha hb)
    ∙ ap (set _ to) (sym (get_or-take n xs from d (omega arith)))

module _ {X : Type 0} (xs : List X) (n from to : ℕ) (d : X) where
  -- a move to a later place, in the front of the table that holds the items
  pub moves_up : from < to → to < length (take n xs) → take n (set (paste xs from (drop (from + 1) xs) (to + 1 - (from + 1))) to (get_or xs from d)) ≡ moved (take n xs) from to
  moves_up lt le =
      front_moved xs n from (from + 1) (to + 1 - (from + 1)) from to d (omega arith) (omega arith) (omega arith) (omega arith)
      ∙ moved_up (take n xs) from to d lt le

  -- a move to an earlier place there
  pub moves_down : to ≤ from → from < length (take n xs) → take n (set (paste xs (to + 1) (drop to xs) (from - to)) to (get_or xs from d)) ≡ moved (take n xs) from to
  moves_down le lt =
      front_moved xs n (to + 1) to (from - to) from to d (omega arith) (omega arith) (omega arith) (omega arith)
      ∙ moved_down (take n xs) from to d le lt

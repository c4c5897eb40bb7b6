-- What a caller may conclude from the contract of an edit.
use Rattle.std.proofs.Common.{◌≡◌, ℕ, ◌<◌, ◌≤◌, List, ◌∷◌, ◌++◌, length, get_or, take, drop, set, Ok, Err, Result, sym, ap, subst, ⊎_elim, arith}
use Rattle.std.specs.List.{insert, remove, AllByRecursion}
use Rattle.std.proofs.lemmas.List.{drop_more, length-append, length-take, length-drop}
use Rattle.std.proofs.ByRecursion.{All-weaker, all-has, all_has_itself}
use Rattle.slots.specs.declared.list.SlotList.{SlotList}
use Rattle.slots.specs.declared.refusal.Refusal.{Refusal}
use Rattle.slots.specs.Slots.{table, items, count, room, moved, Among, Edited, Sets, Inserts, Removes, Moves}

-- what holds of each slot before, and of what is put in, holds of each slot after
pub all_among : {X : Type 0} (P : X → Type 0) (xs ys : List X) → Among xs ys → AllByRecursion P xs → AllByRecursion P ys
all_among P xs ys among all = All-weaker _ P (λ x h. all-has P xs x all h) ys among

-- where each slot of t comes from, whatever was answered
module _ {X : Type 0} (s t : SlotList X) (at : ℕ) where
  unchanged : (xs : List X) → Among xs (table s) → t ≡ s → Among xs (table t)
  unchanged xs among same = subst (λ u. Among xs (table u)) (sym same) among

  pub sets_among : {U : Type 0} (x : X) (r : Result U Refusal) → Sets s at x r t → Among (x ∷ table s) (table t)
  sets_among x (Ok _) h = h.1.slots_among
  sets_among x (Err e) h = unchanged (x ∷ table s) (all_has_itself (x ∷ table s)).1 h.0

  pub inserts_among : {U : Type 0} (x : X) (r : Result U Refusal) → Inserts s at x r t → Among (x ∷ table s) (table t)
  inserts_among x (Ok _) h = h.2.slots_among
  inserts_among x (Err e) h = unchanged (x ∷ table s) (all_has_itself (x ∷ table s)).1 h.0

  pub removes_among : (r : Result X Refusal) → Removes s at r t → Among (table s) (table t)
  removes_among (Ok x) h = h.2.slots_among
  removes_among (Err e) h = unchanged (table s) (all_has_itself (table s)) h.0

  pub moves_among : {U : Type 0} (to : ℕ) (r : Result U Refusal) → Moves s at to r t → Among (table s) (table t)
  moves_among to (Ok _) h = h.2.slots_among
  moves_among to (Err e) h = unchanged (table s) (all_has_itself (table s)) h.0

-- the edit that is made where nothing stands against it
module _ {X : Type 0} (s t : SlotList X) (at : ℕ) where
  pub sets_surely : {U : Type 0} (x : X) (r : Result U Refusal) → at < count s → Sets s at x r t → Edited s (set (items s) at x) (x ∷ table s) t
  sets_surely x (Ok _) lt h = h.1
  sets_surely x (Err e) lt h = absurd (omega arith)

  pub inserts_surely : {U : Type 0} (x : X) (r : Result U Refusal) → at ≤ count s → count s < room s → Inserts s at x r t → Edited s (insert (items s) at x) (x ∷ table s) t
  inserts_surely x (Ok _) le lt h = h.2
  inserts_surely x (Err e) le lt h = ⊎_elim (λ no. absurd (omega arith)) (λ no. absurd (omega arith)) h.1

  pub removes_surely : (r : Result X Refusal) → at < count s → Removes s at r t → Edited s (remove (items s) at) (table s) t
  removes_surely (Ok x) lt h = h.2
  removes_surely (Err e) lt h = absurd (omega arith)

  pub moves_surely : {U : Type 0} (to : ℕ) (r : Result U Refusal) → at < count s → to < count s → Moves s at to r t → Edited s (moved (items s) at to) (table s) t
  moves_surely to (Ok _) lf lt h = h.2
  moves_surely to (Err e) lf lt h = ⊎_elim (λ no. absurd (omega arith)) (λ no. absurd (omega arith)) h.1

module _ {X : Type 0} (xs : List X) (from to : ℕ) where
  -- a move is a removal, and then an insertion of what was removed
  pub moved_is : (d : X) → from < length xs → moved xs from to ≡ insert (remove xs from) to (get_or xs from d)
  moved_is d lt = ap (λ ys. take to (remove xs from) ++ (take 1 ys ++ drop to (remove xs from))) (drop_more xs from d lt)

  -- a move keeps the number of items
  pub length_moved : from < length xs → to < length xs → length (moved xs from to) ≡ length xs
  length_moved lf lt = simp (length-append, length-take, length-drop) (omega arith)

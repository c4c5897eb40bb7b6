-- A list over a lent table: its items, the answer of each call, and what each call leaves in the table.
use Rattle.std.specs.Prelude.{◌≡◌, ℕ, ◌<◌, ◌≤◌, ◌⊎◌, List, ◌∷◌, ◌++◌, length, take, drop, Ok, Err, Result, slice_index_or, slice_set}
use Rattle.std.specs.List.{ContainsAt, insert, remove, AllByRecursion}
use Rattle.slots.specs.declared.list.SlotList.{SlotList}
use Rattle.slots.specs.declared.refusal.Refusal.{Refusal}
use Rattle.slots.specs.declared.refusal.Refusal.TheVariants.{NotInList, Full}

-- every slot of the table, those past the items too
abbrev pub table : {X : Type 0} → SlotList X → List X
table s = s.slots.now

-- the items, in their order: the front of the table
abbrev pub items : {X : Type 0} → SlotList X → List X
items s = take s.len (table s)

-- how many items there are
abbrev pub count : {X : Type 0} → SlotList X → ℕ
count s = length (items s)

-- how many items there is room for
abbrev pub room : {X : Type 0} → SlotList X → ℕ
room s = length (table s)

-- the item at `from` taken out, and put in again at `to`
abbrev pub moved : {X : Type 0} → List X → ℕ → ℕ → List X
moved xs from to = take to (remove xs from) ++ (take 1 (drop from xs) ++ drop to (remove xs from))

-- each of ys is one of xs
abbrev pub Among : {X : Type 0} → List X → List X → Type 0
Among xs ys = AllByRecursion (ContainsAt xs) ys

-- the list s became t: it holds xs in the same table, where each slot holds one of `source`
pub record Edited {X : Type 0} (s : SlotList X) (xs source : List X) (t : SlotList X) : Type 0 where
  pub items_are : items t ≡ xs
  pub same_room : room t ≡ room s
  pub same_lender : t.slots.ghost_name ≡ s.slots.ghost_name
  pub slots_among : Among source (table t)

-- the item at a position is read, or the position is not in the list
abbrev pub Reads : {X : Type 0} → SlotList X → ℕ → Result X Refusal → Type 0
Reads s at (Ok x) = (at < count s) × (x ≡ slice_index_or (items s) at x)
Reads s at (Err e) = (count s ≤ at) × (e ≡ NotInList)

-- x takes the place of the item at a position
abbrev pub Sets : {X U : Type 0} → SlotList X → ℕ → X → Result U Refusal → SlotList X → Type 0
Sets s at x (Ok _) t = (at < count s) × Edited s (slice_set (items s) at x) (x ∷ table s) t
Sets s at x (Err e) t = (t ≡ s) × (count s ≤ at) × (e ≡ NotInList)

-- x is put in at a position, and the items from there on move up by one; the position is tried before the room
abbrev pub Inserts : {X U : Type 0} → SlotList X → ℕ → X → Result U Refusal → SlotList X → Type 0
Inserts s at x (Ok _) t = (at ≤ count s) × (count s < room s) × Edited s (insert (items s) at x) (x ∷ table s) t
Inserts s at x (Err e) t = (t ≡ s) × (((count s < at) × (e ≡ NotInList)) ⊎ ((at ≤ count s) × (count s ≡ room s) × (e ≡ Full)))

-- the item at a position is taken out and answered, and the items after it move down by one
abbrev pub Removes : {X : Type 0} → SlotList X → ℕ → Result X Refusal → SlotList X → Type 0
Removes s at (Ok x) t = (at < count s) × (x ≡ slice_index_or (items s) at x) × Edited s (remove (items s) at) (table s) t
Removes s at (Err e) t = (t ≡ s) × (count s ≤ at) × (e ≡ NotInList)

-- the item at `from` ends at `to`, and the others keep their order; `from` is tried before `to`
abbrev pub Moves : {X U : Type 0} → SlotList X → ℕ → ℕ → Result U Refusal → SlotList X → Type 0
Moves s from to (Ok _) t = (from < count s) × (to < count s) × Edited s (moved (items s) from to) (table s) t
Moves s from to (Err e) t = (t ≡ s) × ((count s ≤ from) ⊎ ((from < count s) × (count s ≤ to))) × (e ≡ NotInList)

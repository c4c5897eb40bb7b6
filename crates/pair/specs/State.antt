-- The state of a pair, and what a call of it gives.
use Rattle.std.specs.Prelude.{◌≡◌, ℕ, min, ◌⊎◌, List, length, Ok, Err, Result}
use Rattle.std.specs.List.{AllByRecursion, ContainsAt}
use Rattle.slots.specs.declared.list.SlotList.{SlotList}
use Rattle.slots.specs.Slots.{table, items}
use Rattle.links.specs.Columns.{Columns}
use Rattle.frames.specs.declared.frame.Operation.{Operation}
use Rattle.frames.specs.Edits.{Edit, edit}
use Rattle.documents.specs.declared.fault.Fault.{Fault}
use Rattle.documents.specs.Attempts.{State, answer, state_then}
use Rattle.pair.specs.declared.pair.Pair.{Pair}
use Rattle.pair.specs.Written.{written}

-- what a pair holds, and no slot past a list's length
abbrev pub state : {R : Type 0} → Pair R → State R
state s = record {
  size = s.size;
  blank = s.blank;
  lines = written (items s.lines);
  records = items s.records;
  links = items s.links;
}

-- how many lines the slots are for: at most 256, and no more than any of them has
abbrev pub least : {X Y Z : Type 0} → List X → List Y → List Z → ℕ
least xs ys zs = min 256 (min (length xs) (min (length ys) (length zs)))

-- the answer to an operation, as an edit
abbrev pub said : Result Operation Fault → Result Edit Fault
said (Ok operation) = Ok (edit operation)
said (Err f) = Err f

-- every row-link slot, those past the records too, has the build of the row that a new record takes
abbrev pub OneBuild : {R : Type 0} → Columns R → Pair R → Type 0
OneBuild row s = AllByRecursion (λ r. row.fresh r ≡ row.fresh s.blank) (table s.links)

-- what a slot of t holds is an item of t, or a slot of s held it
abbrev pub SlotsFrom : {X : Type 0} → SlotList X → SlotList X → Type 0
SlotsFrom {X} s t = (x : X) → ContainsAt (table t) x → ContainsAt (items t) x ⊎ ContainsAt (table s) x

-- nothing changed, in the slots past the lists too
pub record Same {R : Type 0} (s t : Pair R) : Type 0 where
  pub same_size : t.size ≡ s.size
  pub same_blank : t.blank ≡ s.blank
  pub same_lines : t.lines ≡ s.lines
  pub same_records : t.records ≡ s.records
  pub same_links : t.links ≡ s.links

-- a refusal leaves the pair as it was
abbrev pub Untouched : {R X E : Type 0} → Pair R → Result X E → Pair R → Type 0
Untouched s (Ok _) t = Unit {0}
Untouched s (Err _) t = Same s t

-- A call is this attempt: its answer, the state after it, of a refusal that nothing changed, and where the row links come from.
pub record Plays {R : Type 0} (attempt : Result (Edit × State R) Fault) (s : Pair R) (r : Result Operation Fault) (t : Pair R) : Type 0 where
  pub answers : said r ≡ answer attempt
  pub leaves : state t ≡ state_then (state s) attempt
  pub untouched : Untouched s r t
  pub links_from : SlotsFrom s.links t.links

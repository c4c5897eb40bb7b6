-- What an edit of the sheet and the table makes of a pair's state.
use Rattle.std.specs.Prelude.{ℕ, List, Result, slice_set}
use Rattle.std.specs.List.{insert, remove}
use Rattle.kinds.specs.declared.side.Side.{Side}
use Rattle.links.specs.Columns.{Columns}
use Rattle.frames.specs.Edits.{Edit}
use Rattle.documents.specs.declared.fault.Fault.{Fault}
use Rattle.documents.specs.Documents.{record_line, remark_line, zeros, moved, Item, form}
use Rattle.documents.specs.Attempts.{State, document, kinds, holding, tried}
use Rattle.pair.specs.declared.pair.places.Place.{Place}

-- a record of zeros at a place
abbrev pub with_record : {R : Type 0} → Place → State R → State R
with_record at d = holding d (insert d.lines at.line (record_line zeros)) (insert d.records at.number zeros) (insert d.links at.number d.blank)

-- a remark as line p
abbrev pub with_remark : {R : Type 0} → ℕ → List ℕ → State R → State R
with_remark p t d = holding d (insert d.lines p (remark_line t)) d.records d.links

-- other rows and another link of the record at a place
abbrev pub with_rows : {R : Type 0} → Place → List ℕ → List ℕ → R → State R → State R
with_rows at x y k d = holding d (slice_set d.lines at.line (record_line x)) (slice_set d.records at.number y) (slice_set d.links at.number k)

-- without the record at a place
abbrev pub without_record : {R : Type 0} → Place → State R → State R
without_record at d = holding d (remove d.lines at.line) (remove d.records at.number) (remove d.links at.number)

-- without the remark that is line p
abbrev pub without_remark : {R : Type 0} → ℕ → State R → State R
without_remark p d = holding d (remove d.lines p) d.records d.links

-- the record at one place ends at another
abbrev pub moved_record : {R : Type 0} → Place → Place → State R → State R
moved_record from to d = holding d (moved d.lines from.line to.line) (moved d.records from.number to.number) (moved d.links from.number to.number)

-- the remark that is line p ends as line q
abbrev pub moved_remark : {R : Type 0} → ℕ → ℕ → State R → State R
moved_remark p q d = holding d (moved d.lines p q) d.records d.links

-- an edit tried on a side's document, its faults told at a position
abbrev pub tried_on : {R : Type 0} → Columns R → (s : Side) → ℕ → Edit → State R → Result (List (Item s)) Fault
tried_on row s told e d = tried (form s) (kinds row s d) (λ _. told) e (document s d)

-- a side's document with another row of the record at a position
abbrev pub with_row : {R : Type 0} (s : Side) → ℕ → State R → List ℕ → List (Item s)
with_row s p d x = slice_set (document s d) p ((form s).of_row x)

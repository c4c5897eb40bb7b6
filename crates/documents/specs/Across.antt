-- Carrying an edit across: its change by the record's link, its positions by the order of the records.
use Rattle.std.specs.Prelude.{ℕ, Bool, true, false, cond, List, Some, None, Ok, Err, Option, Result, ◌==◌, slice_set}
use Rattle.std.specs.List.{insert as inserted, remove}
use Rattle.kinds.specs.Answers.{◌>>=◌, need}
use Rattle.kinds.specs.declared.change.Change.{Change}
use Rattle.kinds.specs.declared.change.Change.TheVariants.{Keep, Add, Set, Mask}
use Rattle.kinds.specs.declared.side.Side.{Side}
use Rattle.kinds.specs.declared.side.Side.TheVariants.{Left, Right}
use Rattle.links.specs.Laws.{Carried, sent, refused}
use Rattle.links.specs.Columns.{Columns}
use Rattle.frames.specs.Edits.{Edit, keep, insert, remark, delete, move, change}
use Rattle.documents.specs.declared.fault.Fault.{Fault}
use Rattle.documents.specs.declared.fault.Fault.TheVariants.{NotInDocument}
use Rattle.documents.specs.Faults.{link_fault}
use Rattle.documents.specs.Documents.{Line, record_line, remark_line, records_before, line_of, place_for, item, moved}

-- ---- positions

-- a change at a position: one that keeps is the edit that keeps
abbrev pub change_at : ℕ → ℕ → Change → Edit
change_at p c Keep = keep
change_at p c (Add d) = change p c (Add d)
change_at p c (Set w) = change p c (Set w)
change_at p c (Mask m b) = change p c (Mask m b)

-- there is a record line
abbrev pub is_record : Option Line → Bool
is_record None = false
is_record (Some (record_line row)) = true
is_record (Some (remark_line text)) = false

-- An edit of the sheet, told to the table, which knows of no remarks. A change is the carried one.
abbrev pub to_table : List Line → Edit → Edit
to_table lines keep = keep
to_table lines (insert p) = insert (records_before p lines)
to_table lines (remark p text) = keep
to_table lines (delete p) = cond (is_record (item lines p)) (delete (records_before p lines)) keep
to_table lines (move p q) =
    let j = records_before p lines in
    let k = records_before q (remove lines p) in
    cond (is_record (item lines p)) (cond (j == k) keep (move j k)) keep
to_table lines (change p c e) = change_at (records_before p lines) c e

-- An edit of the table, told to the sheet. A change is the carried one.
abbrev pub to_sheet : List Line → Edit → Edit
to_sheet lines keep = keep
to_sheet lines (insert j) = insert (place_for j lines)
to_sheet lines (remark j text) = keep
to_sheet lines (delete j) = delete (line_of j lines)
to_sheet lines (move j k) =
    let p = line_of j lines in
    cond (j == k) keep (move p (place_for k (remove lines p)))
to_sheet lines (change j c e) = change_at (line_of j lines) c e

-- an edit of a side's document, told to the other
abbrev pub told : Side → List Line → Edit → Edit
told Left lines e = to_table lines e
told Right lines e = to_sheet lines e

-- ---- changes and row links

-- the number of the record at a side's position
abbrev pub number_at : Side → List Line → ℕ → ℕ
number_at Left lines p = records_before p lines
number_at Right lines j = j

-- what a link answers; a refusal is told at the position and the column of the edit
abbrev pub link_answer : {R : Type 0} → ℕ → ℕ → Carried R → Result (Change × R) Fault
link_answer p c (sent f r) = Ok (f, r)
link_answer p c (refused n) = Err (link_fault p c n)

-- the edit with its change, if it is one, carried by the record's link, and the row links with that link's new memory
abbrev pub carried : {R : Type 0} → Columns R → Side → List Line → List R → Edit → Result (Edit × List R) Fault
carried row s lines links keep = Ok (keep, links)
carried row s lines links (insert p) = Ok (insert p, links)
carried row s lines links (remark p text) = Ok (remark p text, links)
carried row s lines links (delete p) = Ok (delete p, links)
carried row s lines links (move p q) = Ok (move p q, links)
carried row s lines links (change p c e) = let j = number_at s lines p in do
  r ← need (item links j) (NotInDocument p)
  a ← link_answer p c (row.carry s c r e)
  Ok (change p c a.0, slice_set links j a.1)

-- of an edit and its translation, the one that the table takes
abbrev pub of_table : Side → Edit → Edit → Edit
of_table Left e t = t
of_table Right e t = e

-- the row links after an edit of the table: a link moves with its record, and a new record takes a blank one
abbrev pub relinked : {R : Type 0} → R → Edit → List R → List R
relinked blank keep links = links
relinked blank (insert j) links = inserted links j blank
relinked blank (remark j text) links = links
relinked blank (delete j) links = remove links j
relinked blank (move j k) links = moved links j k
relinked blank (change j c e) links = links

-- The translation of an edit of a side's document, and the row links after it.
abbrev pub translated : {R : Type 0} → Columns R → Side → R → List Line → List R → Edit → Result (Edit × List R) Fault
translated row s blank lines links e = do
  a ← carried row s lines links e
  Ok (told s lines a.0, relinked blank (of_table s e (told s lines a.0)) a.1)

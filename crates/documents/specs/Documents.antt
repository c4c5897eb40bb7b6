-- The two documents, where records stand in them, and what an edit makes of each.
use Rattle.std.specs.Prelude.{◌≡◌, ℕ, zero, suc, ◌<◌, ◌≤◌, cond, List, [], ◌∷◌, map, length, take, Some, None, Ok, Option, nat_lt, slice_index, slice_set}
use Rattle.std.specs.List.{insert as inserted, remove}
use Rattle.kinds.specs.declared.kind.Kind.{Kind}
use Rattle.kinds.specs.declared.side.Side.{Side}
use Rattle.kinds.specs.declared.side.Side.TheVariants.{Left, Right}
use Rattle.kinds.specs.Kinds.{apply}
use Rattle.frames.specs.Edits.{Edit, keep, insert, remark, delete, move, change}
use Rattle.documents.specs.declared.line.Remark.{Remark as StoredRemark}
use Rattle.documents.specs.declared.line.Line.{Line as StoredLine}
use Rattle.documents.specs.declared.line.Line.TheVariants.{Record, Remark}

-- a line of the sheet: the row of a record, or the text of a remark
pub data Line : Type 0 where
  record_line : List ℕ → Line
  remark_line : List ℕ → Line

-- the text of a remark as the code stores it
abbrev pub text_of : StoredRemark → List ℕ
text_of stored = take stored.len stored.bytes

-- the line that the code's line stands for
abbrev pub line : StoredLine → Line
line (Record row) = record_line row
line (Remark stored) = remark_line (text_of stored)

-- the sheet that the code's lines stand for
abbrev pub sheet : List StoredLine → List Line
sheet lines = map line lines

-- the row of a new record
abbrev pub zeros : List ℕ
zeros = 0 ∷ 0 ∷ 0 ∷ 0 ∷ []

-- ---- where records stand

-- the rows of the record lines, in their order
abbrev pub records_of : List Line → List (List ℕ)
records_of [] = []
records_of (record_line row ∷ lines) = row ∷ records_of lines
records_of (remark_line text ∷ lines) = records_of lines

-- how many record lines stand before position p
abbrev pub records_before : ℕ → List Line → ℕ
records_before p lines = length (records_of (take p lines))

-- the line of record j: the position of the record line with j record lines before it
abbrev pub line_of : ℕ → List Line → ℕ
line_of j [] = 0
line_of j (remark_line text ∷ lines) = suc (line_of j lines)
line_of zero (record_line row ∷ lines) = 0
line_of (suc j) (record_line row ∷ lines) = suc (line_of j lines)

-- Where a record goes that comes from the table as number j: directly before the line of record j, or to the sheet's end.
abbrev pub place_for : ℕ → List Line → ℕ
place_for j lines = cond (nat_lt j (length (records_of lines))) (line_of j lines) (length lines)

-- ---- items of a list

-- the item at a position
abbrev pub item : {X : Type 0} → List X → ℕ → Option X
item [] p = None
item (x ∷ xs) zero = Some x
item (x ∷ xs) (suc p) = item xs p

-- the list with an item put in at q, where there is one
abbrev pub put_in : {X : Type 0} → Option X → List X → ℕ → List X
put_in None xs q = xs
put_in (Some x) xs q = inserted xs q x

-- the list with the item at p moved so that it ends at q
abbrev pub moved : {X : Type 0} → List X → ℕ → ℕ → List X
moved xs p q = put_in (item xs p) (remove xs p) q

-- ---- what an edit makes of a document

-- How a document holds records: the item that a row makes, the row of an item that is a record, and the item that a text
-- makes where the document has remarks.
pub record Form (X : Type 0) : Type 0 where
  pub of_row : List ℕ → X
  pub row : X → Option (List ℕ)
  pub of_text : List ℕ → Option X

-- the row of a line
abbrev pub line_row : Line → Option (List ℕ)
line_row (record_line row) = Some row
line_row (remark_line text) = None

-- the items of a side's document: the lines of the sheet, the records of the table
abbrev pub Item : Side → Type 0
Item Left = Line
Item Right = List ℕ

-- how the sheet and the table hold records
abbrev pub form : (s : Side) → Form (Item s)
form Left = record { of_row = record_line; row = line_row; of_text = λ text. Some (remark_line text) }
form Right = record { of_row = λ row. row; row = λ row. Some row; of_text = λ text. None }

-- The edit fits the document xs, whose columns have these kinds, and makes ys of it.
abbrev pub Acts : {X : Type 0} → Form X → (ℕ → Kind) → Edit → List X → List X → Type 0
Acts F kind keep xs ys = ys ≡ xs
Acts F kind (insert p) xs ys = (p ≤ length xs) × (ys ≡ inserted xs p (F.of_row zeros))
Acts {X} F kind (remark p text) xs ys = (x : X) × (F.of_text text ≡ Some x) × (p ≤ length xs) × (ys ≡ inserted xs p x)
Acts F kind (delete p) xs ys = (p < length xs) × (ys ≡ remove xs p)
Acts F kind (move p q) xs ys = (p < length xs) × (q < length xs) × (ys ≡ moved xs p q)
Acts {X} F kind (change p c e) xs ys = (x : X) × (row : List ℕ) × (v : ℕ) × (item xs p ≡ Some x) × (F.row x ≡ Some row) ×
    (c < 4) × (apply (kind c) e (slice_index row c) ≡ Ok v) × (ys ≡ slice_set xs p (F.of_row (slice_set row c v)))

-- the edits that make the sheet longer
abbrev pub Lengthens : Edit → Type 0
Lengthens keep = ⊥
Lengthens (insert p) = Unit {0}
Lengthens (remark p text) = Unit {0}
Lengthens (delete p) = ⊥
Lengthens (move p q) = ⊥
Lengthens (change p c e) = ⊥

-- A pair at work: what it answers to an attempt, and the state that it is then in.
use Rattle.std.specs.Prelude.{ℕ, List, [], ◌∷◌, length, Ok, Err, Result, nat_le, nat_lt, slice_index, slice_set}
use Rattle.std.specs.List.{insert as inserted, remove}
use Rattle.kinds.specs.Answers.{◌>>=◌, test, need}
use Rattle.kinds.specs.Kinds.{apply}
use Rattle.kinds.specs.declared.kind.Kind.{Kind}
use Rattle.kinds.specs.declared.refusal.Refusal.{Refusal}
use Rattle.kinds.specs.declared.side.Side.{Side}
use Rattle.kinds.specs.declared.side.Side.TheVariants.{Left, Right}
use Rattle.links.specs.Columns.{Columns, across}
use Rattle.frames.specs.declared.refusal.FrameRefusal.{FrameRefusal}
use Rattle.frames.specs.declared.refusal.FrameRefusal.TheVariants.{RemarkFromTable}
use Rattle.frames.specs.Edits.{Edit, keep, insert, remark, delete, move, change}
use Rattle.frames.specs.Frames.{frame}
use Rattle.documents.specs.declared.fault.Fault.{Fault}
use Rattle.documents.specs.declared.fault.Fault.TheVariants.{NotAFrame, NotInDocument, SheetFull, NotARecord, NotOfKind}
use Rattle.documents.specs.Faults.{kind_fault}
use Rattle.documents.specs.Documents.{Line, zeros, item, moved, Form, Item, form}
use Rattle.documents.specs.Across.{translated}

-- The state of a pair: its size, the row link that a new record takes, the sheet, the table, and a row link for each record.
pub record State (R : Type 0) : Type 0 where
  pub size : ℕ
  pub blank : R
  pub lines : List Line
  pub records : List (List ℕ)
  pub links : List R

-- a pair just opened: both documents are empty, and new records take the pattern, reset
abbrev pub opened : {R : Type 0} → Columns R → ℕ → R → State R
opened row size pattern = record { size = size; blank = row.fresh pattern; lines = []; records = []; links = [] }

-- a side's document
abbrev pub document : {R : Type 0} (s : Side) → State R → List (Item s)
document Left d = d.lines
document Right d = d.records

-- the kinds of a side's columns
abbrev pub kinds : {R : Type 0} → Columns R → Side → State R → ℕ → Kind
kinds row s d c = row.kind s c d.blank

-- the state with another sheet, another table and other row links
abbrev pub holding : {R : Type 0} → State R → List Line → List (List ℕ) → List R → State R
holding d lines records links = record { size = d.size; blank = d.blank; lines = lines; records = records; links = links }

-- the same, with a side's document first
abbrev pub with_own : {R : Type 0} (s : Side) → State R → List (Item s) → List (Item (across s)) → List R → State R
with_own Left d own other links = holding d own other links
with_own Right d own other links = holding d other own links

-- what a kind answers; a refusal is told at a position and a column
abbrev pub kind_answer : {X : Type 0} → ℕ → ℕ → Result X Refusal → Result X Fault
kind_answer p c (Ok x) = Ok x
kind_answer p c (Err n) = Err (kind_fault p c n)

-- An edit tried on a document whose columns have these kinds, its tests in the order of their numbers. A fault at a position
-- is told as one at the position that `told_at` gives.
abbrev pub tried : {X : Type 0} → Form X → (ℕ → Kind) → (ℕ → ℕ) → Edit → List X → Result (List X) Fault
tried F kind told_at keep xs = Ok xs
tried F kind told_at (insert p) xs = do
  _ ← test (nat_le p (length xs)) (NotInDocument (told_at p))
  Ok (inserted xs p (F.of_row zeros))
tried F kind told_at (remark p text) xs = do
  x ← need (F.of_text text) (NotAFrame RemarkFromTable)
  _ ← test (nat_le p (length xs)) (NotInDocument (told_at p))
  Ok (inserted xs p x)
tried F kind told_at (delete p) xs = do
  _ ← test (nat_lt p (length xs)) (NotInDocument (told_at p))
  Ok (remove xs p)
tried F kind told_at (move p q) xs = do
  _ ← test (nat_lt p (length xs)) (NotInDocument (told_at p))
  _ ← test (nat_lt q (length xs)) (NotInDocument (told_at q))
  Ok (moved xs p q)
tried F kind told_at (change p c e) xs = do
  x ← need (item xs p) (NotInDocument (told_at p))
  r ← need (F.row x) (NotARecord (told_at p))
  _ ← test (nat_lt c 4) (NotOfKind (told_at p) c)
  v ← kind_answer (told_at p) c (apply (kind c) e (slice_index r c))
  Ok (slice_set xs p (F.of_row (slice_set r c v)))

-- whether the sheet has room for what the edit adds
abbrev pub room : {R : Type 0} → Edit → State R → Result (Unit {0}) Fault
room keep d = Ok tt
room (insert p) d = test (nat_lt (length d.lines) d.size) (SheetFull p)
room (remark p text) d = test (nat_lt (length d.lines) d.size) (SheetFull p)
room (delete p) d = Ok tt
room (move p q) d = Ok tt
room (change p c e) d = Ok tt

-- the position that an edit names, of a move the first
abbrev pub position : Edit → ℕ
position keep = 0
position (insert p) = p
position (remark p text) = p
position (delete p) = p
position (move p q) = p
position (change p c e) = p

-- An edit of a side's document: it is tried there, and the sheet's room is tested, for which an insertion has no later test;
-- then its translation is tried on the other. Faults are told at the edit's own positions.
abbrev pub given : {R : Type 0} → Columns R → Side → Edit → State R → Result (Edit × State R) Fault
given row s e d = do
  own ← tried (form s) (kinds row s d) (λ p. p) e (document s d)
  _ ← room e d
  t ← translated row s d.blank d.lines d.links e
  other ← tried (form (across s)) (kinds row (across s) d) (λ _. position e) t.0 (document (across s) d)
  Ok (t.0, with_own s d own other t.1)

-- the edit that bytes say, and the side that it is from
abbrev pub read : Result (Side × Edit) FrameRefusal → Result (Side × Edit) Fault
read (Ok f) = Ok f
read (Err n) = Err (NotAFrame n)

-- An attempt: any bytes, given to the pair as a frame. The answer is the translation, with the state then, or a fault.
abbrev pub attempt : {R : Type 0} → Columns R → State R → List ℕ → Result (Edit × State R) Fault
attempt row d bytes = do
  f ← read (frame bytes)
  given row f.0 f.1 d

-- what the caller is told
abbrev pub answer : {R : Type 0} → Result (Edit × State R) Fault → Result Edit Fault
answer (Ok a) = Ok a.0
answer (Err f) = Err f

-- the state then: a refused attempt leaves it as it was
abbrev pub state_then : {R : Type 0} → State R → Result (Edit × State R) Fault → State R
state_then d (Ok a) = a.1
state_then d (Err f) = d

-- the state after a list of attempts
abbrev pub after : {R : Type 0} → Columns R → State R → List (List ℕ) → State R
after row d [] = d
after row d (bytes ∷ rest) = after row (state_then d (attempt row d bytes)) rest

-- A change of one cell of a row, and answers told at a position.
use Rattle.std.specs.Prelude.{ℕ, List, Ok, Err, Result, nat_lt, slice_index, slice_set}
use Rattle.kinds.specs.Answers.{◌>>=◌, test, need}
use Rattle.kinds.specs.Kinds.{apply}
use Rattle.kinds.specs.declared.change.Change.{Change}
use Rattle.kinds.specs.declared.kind.Kind.{Kind}
use Rattle.kinds.specs.declared.side.Side.{Side}
use Rattle.links.specs.Columns.{Columns}
use Rattle.links.specs.declared.rows.ColumnFault.{ColumnFault}
use Rattle.documents.specs.declared.fault.Fault.{Fault}
use Rattle.documents.specs.declared.fault.Fault.TheVariants.{NotInDocument, NotARecord, NotOfKind}
use Rattle.documents.specs.Faults.{link_fault}
use Rattle.documents.specs.Documents.{item, Form}
use Rattle.documents.specs.Across.{link_answer}
use Rattle.documents.specs.Attempts.{kind_answer}

-- what is answered, made into something else
abbrev pub mapped : {X Y E : Type 0} → (X → Y) → Result X E → Result Y E
mapped f (Ok x) = Ok (f x)
mapped f (Err e) = Err e

-- what a row of links answers; a refusal is told at a position
abbrev pub column_told : {X : Type 0} → ℕ → Result X ColumnFault → Result X Fault
column_told p (Ok x) = Ok x
column_told p (Err f) = Err (link_fault p f.column f.refusal)

-- the row of the record at p in a document; a refusal is told at another position
abbrev pub row_at : {X : Type 0} → Form X → ℕ → ℕ → List X → Result (List ℕ) Fault
row_at F told p xs = do
  x ← need (item xs p) (NotInDocument told)
  need (F.row x) (NotARecord told)

-- the row with the change in column c, its tests in the order of their numbers, told at a position
abbrev pub cell_changed : (ℕ → Kind) → ℕ → ℕ → Change → List ℕ → Result (List ℕ) Fault
cell_changed kinds told c e r = do
  _ ← test (nat_lt c 4) (NotOfKind told c)
  v ← kind_answer told c (apply (kinds c) e (slice_index r c))
  Ok (slice_set r c v)

-- a change of a side carried by the link of record j, with that link then; a refusal is told at a position
abbrev pub carried_by : {R : Type 0} → Columns R → Side → List R → ℕ → ℕ → ℕ → Change → Result (Change × R) Fault
carried_by row s links j told c e = do
  r ← need (item links j) (NotInDocument told)
  link_answer told c (row.carry s c r e)

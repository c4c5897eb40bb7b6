-- Where a record stands in the sheet and in the table, where a new one may, and where one may be moved to.
use Rattle.std.specs.Prelude.{◌≡◌, ℕ, ◌<◌, ◌≤◌, true, length, Result, nat_le}
use Rattle.std.specs.List.{remove}
use Rattle.kinds.specs.Answers.{◌>>=◌, test}
use Rattle.kinds.specs.declared.side.Side.{Side}
use Rattle.kinds.specs.declared.side.Side.TheVariants.{Left, Right}
use Rattle.frames.specs.Edits.{insert}
use Rattle.documents.specs.declared.fault.Fault.{Fault}
use Rattle.documents.specs.declared.fault.Fault.TheVariants.{NotInDocument}
use Rattle.documents.specs.Documents.{item, records_before}
use Rattle.documents.specs.Across.{is_record}
use Rattle.documents.specs.Attempts.{State, room}
use Rattle.pair.specs.declared.pair.places.Place.{Place}

-- a record is at a side's position
abbrev pub HasRecord : {R : Type 0} → Side → ℕ → State R → Type 0
HasRecord Left p d = is_record (item d.lines p) ≡ true
HasRecord Right j d = j < length d.records

-- a record stands at the place
pub record StandsAt {R : Type 0} (at : Place) (d : State R) : Type 0 where
  pub line : is_record (item d.lines at.line) ≡ true
  pub number : at.number ≡ records_before at.line d.lines

-- a new record may be put in at the place
pub record OpensAt {R : Type 0} (at : Place) (d : State R) : Type 0 where
  pub within : at.line ≤ length d.lines
  pub number : at.number ≡ records_before at.line d.lines

-- the record at one place may be moved so that it ends at the other
pub record EndsAt {R : Type 0} (from to : Place) (d : State R) : Type 0 where
  pub within : to.line < length d.lines
  pub number : to.number ≡ records_before to.line (remove d.lines from.line)

-- whether a new item may be put in at a position of a document with n items: the position is tried first, and then the room
abbrev pub may_insert : {R : Type 0} → ℕ → ℕ → State R → Result (Unit {0}) Fault
may_insert p n d = do
  _ ← test (nat_le p n) (NotInDocument p)
  room (insert p) d

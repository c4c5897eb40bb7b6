-- A day's log, played line by line: what each line comes to, and what is counted.
use Rattle.std.specs.Prelude.{ℕ, ◌+◌, min, Bool, cond, List, Some, None, Ok, Err, Option, Result, nat_lt}
use Rattle.kinds.specs.Answers.{◌>>=◌, test}
use Rattle.links.specs.Columns.{Columns}
use Rattle.frames.specs.Edits.{Edit}
use Rattle.frames.specs.Lines.{line_bytes}
use Rattle.frames.specs.declared.refusal.LineRefusal.{LineRefusal}
use Rattle.documents.specs.declared.fault.Fault.{Fault}
use Rattle.documents.specs.Attempts.{State, attempt}
use Rattle.playback.specs.declared.fault.Cause.{Cause}
use Rattle.playback.specs.declared.fault.Cause.TheVariants.{TooManyLines, Line, Frame}

-- A day: the state of the pair, how many lines there were, and how many frames were accepted and refused.
pub record Day (R : Type 0) : Type 0 where
  pub state : State R
  pub lines : ℕ
  pub accepted : ℕ
  pub refused : ℕ

-- the day of a pair that was given nothing
abbrev pub begun : {R : Type 0} → State R → Day R
begun d = record { state = d; lines = 0; accepted = 0; refused = 0 }

-- the day has ended: a line was refused for its number
abbrev pub ended : {R : Type 0} → Day R → Bool
ended day = nat_lt 1000000 day.lines

-- a line's bytes, none if it is skipped
abbrev pub read : Result (Option (List ℕ)) LineRefusal → Result (Option (List ℕ)) Cause
read (Ok bytes) = Ok bytes
read (Err refusal) = Err (Line refusal)

-- what the pair makes of a frame
abbrev pub taken : {R : Type 0} → Result (Edit × State R) Fault → Result (Option (Edit × State R)) Cause
taken (Ok a) = Ok (Some a)
taken (Err fault) = Err (Frame fault)

-- a line's bytes are a frame, and a skipped line is none
abbrev pub played : {R : Type 0} → Columns R → State R → Option (List ℕ) → Result (Option (Edit × State R)) Cause
played row d None = Ok None
played row d (Some bytes) = taken (attempt row d bytes)

-- What a line comes to, its tests in the order of their numbers: the translation and the state then, or none if it is skipped.
abbrev pub outcome : {R : Type 0} → Columns R → Day R → List ℕ → Result (Option (Edit × State R)) Cause
outcome row day line = do
  _ ← test (nat_lt day.lines 1000000) TooManyLines
  bytes ← read (line_bytes line 64)
  played row day.state bytes

-- the day with one line more: a skipped line is in neither count
abbrev pub counted : {R : Type 0} → Day R → Result (Option (Edit × State R)) Cause → Day R
counted day (Ok None) = record { state = day.state; lines = day.lines + 1; accepted = day.accepted; refused = day.refused }
counted day (Ok (Some a)) = record { state = a.1; lines = day.lines + 1; accepted = day.accepted + 1; refused = day.refused }
counted day (Err cause) = record { state = day.state; lines = day.lines + 1; accepted = day.accepted; refused = day.refused + 1 }

-- the day after a line; once it has ended nothing counts
abbrev pub next : {R : Type 0} → Columns R → Day R → List ℕ → Day R
next row day line = cond (ended day) day (counted day (outcome row day line))

-- what the caller is told of a line
abbrev pub answer : {R : Type 0} → Result (Option (Edit × State R)) Cause → Result (Option Edit) Cause
answer (Ok None) = Ok None
answer (Ok (Some a)) = Ok (Some a.0)
answer (Err cause) = Err cause

-- the state of the pair then
abbrev pub state_then : {R : Type 0} → State R → Result (Option (Edit × State R)) Cause → State R
state_then d (Ok None) = d
state_then d (Ok (Some a)) = a.1
state_then d (Err cause) = d

-- the number of the line, and of the line at which the day has ended
abbrev pub number : {R : Type 0} → Day R → ℕ
number day = min (day.lines + 1) 1000001

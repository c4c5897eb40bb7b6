-- The day that a replay has come to, and what a call of it gives.
use Rattle.std.specs.Prelude.{◌≡◌, ℕ, ◌+◌, List, Some, None, Ok, Err, Option, Result}
use Rattle.links.specs.Columns.{Columns}
use Rattle.frames.specs.declared.frame.Operation.{Operation}
use Rattle.frames.specs.Edits.{Edit, edit}
use Rattle.logs.specs.Feeding.{Midst, midst}
use Rattle.pair.specs.Cells.{mapped}
use Rattle.pair.specs.State.{state}
use Rattle.playback.specs.declared.fault.Cause.{Cause}
use Rattle.playback.specs.declared.fault.LineFault.{LineFault}
use Rattle.playback.specs.declared.replay.Replay.{Replay}
use Rattle.playback.specs.Days.{Day, outcome, answer, state_then, next, number}

-- the day so far
abbrev pub day : {R : Type 0} → Replay R → Day R
day s = record { state = state s.pair.now; lines = s.lines; accepted = s.accepted; refused = s.refused }

-- the day so far, and the line that has begun
abbrev pub reading : {R : Type 0} → Replay R → Midst (Day R)
reading s = midst (day s) s.start.kept

-- the translation of an accepted frame, as an edit; a skipped line has none
abbrev pub translation : Option Operation → Option Edit
translation None = None
translation (Some operation) = Some (edit operation)

-- an answer to a line, by its cause if it is refused
abbrev pub told : Result (Option Operation) LineFault → Result (Option Edit) Cause
told (Ok p) = Ok (translation p)
told (Err f) = Err f.cause

-- a refusal names the line
abbrev pub Names : ℕ → Result (Option Operation) LineFault → Type 0
Names n (Ok p) = Unit {0}
Names n (Err f) = f.line ≡ n

-- A line tried: what is answered, and the pair's state then; the counts and the line that has begun stay.
pub record Tries {R : Type 0} (row : Columns R) (s : Replay R) (line : List ℕ) (r : Result (Option Operation) Cause) (t : Replay R) : Type 0 where
  pub answers : mapped translation r ≡ answer (outcome row (day s) line)
  pub leaves : state t.pair.now ≡ state_then (state s.pair.now) (outcome row (day s) line)
  pub lines_stay : t.lines ≡ s.lines
  pub accepted_stay : t.accepted ≡ s.accepted
  pub refused_stay : t.refused ≡ s.refused
  pub start_stays : t.start ≡ s.start

-- how many frames an answer counts as accepted
abbrev pub accepts : Result (Option Operation) Cause → ℕ
accepts (Ok None) = 0
accepts (Ok (Some operation)) = 1
accepts (Err cause) = 0

-- how many frames it counts as refused
abbrev pub refuses : Result (Option Operation) Cause → ℕ
refuses (Ok p) = 0
refuses (Err cause) = 1

-- the answer, with the line that a refusal names
abbrev pub on_line : ℕ → Result (Option Operation) Cause → Result (Option Operation) LineFault
on_line n (Ok p) = Ok p
on_line n (Err cause) = Err (record { line = n; cause = cause })

-- A line counted that was tried.
pub record Counts {R : Type 0} (s : Replay R) (tried : Result (Option Operation) Cause) (r : Result (Option Operation) LineFault) (t : Replay R) : Type 0 where
  pub answers : r ≡ on_line (s.lines + 1) tried
  pub one_more : t.lines ≡ s.lines + 1
  pub more_accepted : t.accepted ≡ s.accepted + accepts tried
  pub more_refused : t.refused ≡ s.refused + refuses tried
  pub same_state : state t.pair.now ≡ state s.pair.now
  pub same_start : t.start ≡ s.start

-- One line played: what is answered, the line that a refusal names, and the day then.
pub record PlaysLine {R : Type 0} (row : Columns R) (s : Replay R) (line : List ℕ) (r : Result (Option Operation) LineFault) (t : Replay R) : Type 0 where
  pub answers : told r ≡ answer (outcome row (day s) line)
  pub names : Names (number (day s)) r
  pub leaves : day t ≡ next row (day s) line
  pub stays : t.start ≡ s.start

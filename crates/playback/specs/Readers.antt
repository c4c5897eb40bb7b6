-- A day as a reader of its log: the day after a line, and what is reported of the line.
use Rattle.std.specs.Prelude.{ℕ, cond, List, [], Ok, Err, Option, Result}
use Rattle.links.specs.Columns.{Columns}
use Rattle.frames.specs.Edits.{Edit}
use Rattle.documents.specs.Attempts.{State}
use Rattle.logs.specs.Feeding.{Reader}
use Rattle.playback.specs.declared.fault.Cause.{Cause}
use Rattle.playback.specs.Causes.{cause_number}
use Rattle.playback.specs.Days.{Day, ended, outcome, next, number}
use Rattle.printing.specs.Texts.{refusal_line}

-- what is reported of the line with a number: a refusal, and nothing else
abbrev pub reported : {R : Type 0} → ℕ → Result (Option (Edit × State R)) Cause → List ℕ
reported n (Ok a) = []
reported n (Err cause) = refusal_line n (cause_number cause)

-- what is reported of a line; once the day has ended, nothing
abbrev pub report : {R : Type 0} → Columns R → Day R → List ℕ → List ℕ
report row day line = cond (ended day) [] (reported (number day) (outcome row day line))

-- A day reads its log line by line.
abbrev pub reader : {R : Type 0} → Columns R → Reader (Day R)
reader row = record { next = next row; says = report row }

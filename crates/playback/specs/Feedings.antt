-- A log fed to a replay in pieces: what is taken of a piece, what is reported meanwhile, and the day then.
use Rattle.std.specs.Prelude.{◌≡◌, ℕ, ◌+◌, ◌<◌, ◌≤◌, ◌⊎◌, List, [], length, take, Some, None, Option}
use Rattle.links.specs.Columns.{Columns}
use Rattle.logs.specs.Feeding.{midst, fed, said, at_end, said_at_end}
use Rattle.playback.specs.declared.replay.Replay.{Replay}
use Rattle.playback.specs.declared.replay.feeding.Fed.{Fed}
use Rattle.playback.specs.Days.{next}
use Rattle.playback.specs.Readers.{report, reader}
use Rattle.playback.specs.Reports.{Written}
use Rattle.playback.specs.States.{day, reading}

-- A line played, and reported if it is refused.
pub record ReportsLine {R : Type 0} (row : Columns R) (s : Replay R) (line before : List ℕ) (count : ℕ) (t : Replay R) (after : List ℕ) : Type 0 where
  pub leaves : day t ≡ next row (day s) line
  pub stays : t.start ≡ s.start
  pub reports : Written (report row (day s) line) before count after

-- The line that has begun played, and reported if it is refused.
pub record EndsLine {R : Type 0} (row : Columns R) (s : Replay R) (before : List ℕ) (count : ℕ) (t : Replay R) (after : List ℕ) : Type 0 where
  pub leaves : reading t ≡ midst (next row (day s) s.start.kept) []
  pub reports : Written (report row (day s) s.start.kept) before count after

-- Bytes taken from the front of a piece: the reader then, and the reports meanwhile.
pub record Takes {R : Type 0} (row : Columns R) (s : Replay R) (piece before : List ℕ) (r : Fed) (t : Replay R) (after : List ℕ) : Type 0 where
  pub within : r.taken ≤ length piece
  pub leaves : reading t ≡ fed (reader row) (reading s) (take r.taken piece)
  pub reports : Written (said (reader row) (reading s) (take r.taken piece)) before r.written after

-- A piece fed: all of it is taken unless fewer than 64 bytes of the report are left, and something if there were as many.
pub record Feeds {R : Type 0} (row : Columns R) (s : Replay R) (piece before : List ℕ) (r : Fed) (t : Replay R) (after : List ℕ) : Type 0 where
  pub takes : Takes row s piece before r t after
  pub stops : (r.taken ≡ length piece) ⊎ (length before < r.written + 64)
  pub goes_on : 0 < length piece → 64 ≤ length before → 0 < r.taken
  pub waits : length before < 64 → r.taken ≡ 0

-- A log ended: the last line is played, if a newline did not end it.
pub record Ends {R : Type 0} (row : Columns R) (s : Replay R) (before : List ℕ) (count : ℕ) (t : Replay R) (after : List ℕ) : Type 0 where
  pub leaves : reading t ≡ midst (at_end (reader row) (reading s)) []
  pub reports : Written (said_at_end (reader row) (reading s)) before count after
  pub room : 64 ≤ length before

-- A report that is too short, with nothing done.
pub record Waits {R : Type 0} (s : Replay R) (before : List ℕ) (t : Replay R) (after : List ℕ) : Type 0 where
  pub short : length before < 64
  pub leaves : reading t ≡ reading s
  pub writes : after ≡ before

-- an end of a log, unless the report is too short
abbrev pub Finishes : {R : Type 0} → Columns R → Replay R → List ℕ → Option ℕ → Replay R → List ℕ → Type 0
Finishes row s before None t after = Waits s before t after
Finishes row s before (Some count) t after = Ends row s before count t after

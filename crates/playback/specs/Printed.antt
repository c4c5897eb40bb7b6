-- What is printed of a day once its log has ended, and all that is printed of a log.
use Rattle.std.specs.Prelude.{◌≡◌, ℕ, List, [], ◌∷◌, ◌++◌, map, length}
use Rattle.std.specs.List.{concat}
use Rattle.links.specs.Columns.{Columns}
use Rattle.documents.specs.Attempts.{State}
use Rattle.logs.specs.Logs.{lines_of}
use Rattle.logs.specs.Feeding.{after_lines, said_of, midst, at_end, said_at_end}
use Rattle.printing.specs.Texts.{sheet_head, sheet_line, table_head, record_text, end_line}
use Rattle.playback.specs.Days.{Day, begun}
use Rattle.playback.specs.Readers.{reader}
use Rattle.playback.specs.Pieces.{fed_all, said_all}

-- the table with its head, and the counts
abbrev pub table_lines : {R : Type 0} → Day R → List (List ℕ)
table_lines day = table_head (length day.state.records) ∷ (map record_text day.state.records ++ end_line day.accepted day.refused ∷ [])

-- the lines of a day's report: the sheet with its head, and then those
abbrev pub report_lines : {R : Type 0} → Day R → List (List ℕ)
report_lines day = sheet_head (length day.state.lines) ∷ (map sheet_line day.state.lines ++ table_lines day)

-- All that is printed of a log, played to a pair in this state: each refusal, and then the report of the day that its lines make.
abbrev pub output : {R : Type 0} → Columns R → State R → List ℕ → List ℕ
output row d log =
    let r = reader row in
    said_of r (begun d) (lines_of log) ++ concat (report_lines (after_lines r (begun d) (lines_of log)))

-- Fed in pieces: what is printed meanwhile and at the end of the log, and then the report of the day, is the log's output.
abbrev pub AsOutput : {R : Type 0} → Columns R → State R → List ℕ → List (List ℕ) → Type 0
AsOutput row d log pieces =
    let r = reader row in
    let m = fed_all r (midst (begun d) []) pieces in
    (said_all r (midst (begun d) []) pieces ++ said_at_end r m) ++ concat (report_lines (at_end r m)) ≡ output row d log

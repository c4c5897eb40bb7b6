-- The text of each line of a day's report. Each ends with a newline; numbers are decimal, with single spaces between them.
use Rattle.std.specs.Prelude.{ℕ, List, map, ◌++◌, codes, decimal}
use Rattle.std.specs.List.{join_with_byte}
use Rattle.documents.specs.Documents.{Line, record_line, remark_line}

-- a line of the log that is refused, and the refusal's number
abbrev pub refusal_line : ℕ → ℕ → List ℕ
refusal_line line number = codes "! " ++ decimal line ++ codes " " ++ decimal number ++ codes "\n"

-- the head of the sheet: how many lines it has
abbrev pub sheet_head : ℕ → List ℕ
sheet_head count = codes "LEFT " ++ decimal count ++ codes "\n"

-- the head of the table: how many records it has
abbrev pub table_head : ℕ → List ℕ
table_head count = codes "RIGHT " ++ decimal count ++ codes "\n"

-- a record, of either document: its numbers
abbrev pub record_text : List ℕ → List ℕ
record_text row = join_with_byte 32 (map decimal row) ++ codes "\n"

-- a remark
abbrev pub remark_text : List ℕ → List ℕ
remark_text text = codes "# " ++ text ++ codes "\n"

-- a line of the sheet
abbrev pub sheet_line : Line → List ℕ
sheet_line (record_line row) = record_text row
sheet_line (remark_line text) = remark_text text

-- the end of the report: how many frames were accepted, and how many were refused
abbrev pub end_line : ℕ → ℕ → List ℕ
end_line accepted refused = codes "END " ++ decimal accepted ++ codes " " ++ decimal refused ++ codes "\n"

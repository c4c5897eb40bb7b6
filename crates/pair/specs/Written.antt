-- The lines of the sheet as the rules speak of them: no byte past a text's length.
use Rattle.std.specs.Prelude.{ℕ, List, map, take}
use Rattle.documents.specs.declared.line.Line.{Line as StoredLine}
use Rattle.documents.specs.declared.line.Remark.{Remark}
use Rattle.documents.specs.Documents.{Line, line}

-- a remark's text
abbrev pub text : Remark → List ℕ
text m = take m.len m.bytes

-- the lines that the code's lines stand for
abbrev pub written : List StoredLine → List Line
written ls = map line ls

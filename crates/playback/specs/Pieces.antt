-- A day's log that comes in pieces: each is fed to the reader in turn.
use Rattle.std.specs.Prelude.{◌≡◌, ℕ, List, [], ◌∷◌, ◌++◌}
use Rattle.links.specs.Columns.{Columns}
use Rattle.logs.specs.Logs.{lines_of}
use Rattle.logs.specs.Feeding.{Reader, after_lines, said_of, Midst, midst, fed, said, at_end, said_at_end}
use Rattle.playback.specs.Days.{Day}
use Rattle.playback.specs.Readers.{reader}

-- the reader after pieces
abbrev pub fed_all : {D : Type 0} → Reader D → Midst D → List (List ℕ) → Midst D
fed_all r m [] = m
fed_all r m (piece ∷ pieces) = fed_all r (fed r m piece) pieces

-- what it says meanwhile
abbrev pub said_all : {D : Type 0} → Reader D → Midst D → List (List ℕ) → List ℕ
said_all r m [] = []
said_all r m (piece ∷ pieces) = said r m piece ++ said_all r (fed r m piece) pieces

-- A log in pieces comes to what its lines do, one by one: the day at the end, and all reports up to then.
pub record AsItsLines {R : Type 0} (row : Columns R) (d : Day R) (log : List ℕ) (pieces : List (List ℕ)) : Type 0 where
  pub day_is : at_end (reader row) (fed_all (reader row) (midst d []) pieces) ≡ after_lines (reader row) d (lines_of log)
  pub reports_are : said_all (reader row) (midst d []) pieces ++ said_at_end (reader row) (fed_all (reader row) (midst d []) pieces) ≡ said_of (reader row) d (lines_of log)

-- Reading a log in pieces: what happens at each line's end, and that pieces come to the same as the whole.
use Rattle.std.specs.Prelude.{◌≡◌, ℕ, cond, List, [], ◌∷◌, ◌++◌, take, ◌==◌}
use Rattle.logs.specs.Logs.{lines_of}

-- A reader of lines: the state after a line, and what it says of the line.
pub record Reader (D : Type 0) : Type 0 where
  pub next : D → List ℕ → D
  pub says : D → List ℕ → List ℕ

-- ---- whole lines

-- the state after lines
abbrev pub after_lines : {D : Type 0} → Reader D → D → List (List ℕ) → D
after_lines r d [] = d
after_lines r d (line ∷ lines) = after_lines r (r.next d line) lines

-- what is said of lines
abbrev pub said_of : {D : Type 0} → Reader D → D → List (List ℕ) → List ℕ
said_of r d [] = []
said_of r d (line ∷ lines) = r.says d line ++ said_of r (r.next d line) lines

-- ---- byte by byte

-- A reader in the midst of a log: its state, and the first 81 characters of the line that has begun.
pub record Midst (D : Type 0) : Type 0 where
  pub state : D
  pub start : List ℕ

-- a reader that is in the midst of a log
abbrev pub midst : {D : Type 0} → D → List ℕ → Midst D
midst d start = record { state = d; start = start }

-- a newline ends the line, and any other byte belongs to it
abbrev pub after_byte : {D : Type 0} → Reader D → Midst D → ℕ → Midst D
after_byte r m b = cond (b == 10) (midst (r.next m.state m.start) []) (midst m.state (take 81 (m.start ++ b ∷ [])))

-- what is said at a byte
abbrev pub said_at : {D : Type 0} → Reader D → Midst D → ℕ → List ℕ
said_at r m b = cond (b == 10) (r.says m.state m.start) []

-- the reader after a piece of the log
abbrev pub fed : {D : Type 0} → Reader D → Midst D → List ℕ → Midst D
fed r m [] = m
fed r m (b ∷ bytes) = fed r (after_byte r m b) bytes

-- what it says meanwhile
abbrev pub said : {D : Type 0} → Reader D → Midst D → List ℕ → List ℕ
said r m [] = []
said r m (b ∷ bytes) = said_at r m b ++ said r (after_byte r m b) bytes

-- the line that has begun, if any
abbrev pub last_line : List ℕ → List (List ℕ)
last_line [] = []
last_line (c ∷ start) = (c ∷ start) ∷ []

-- the state once the log has ended
abbrev pub at_end : {D : Type 0} → Reader D → Midst D → D
at_end r m = after_lines r m.state (last_line m.start)

-- what is said of the last line
abbrev pub said_at_end : {D : Type 0} → Reader D → Midst D → List ℕ
said_at_end r m = said_of r m.state (last_line m.start)

-- ---- laws

-- a line is read by its first 81 characters
pub record Reads81 {D : Type 0} (r : Reader D) : Type 0 where
  pub next_cut : (d : D) (line : List ℕ) → r.next d (take 81 line) ≡ r.next d line
  pub says_cut : (d : D) (line : List ℕ) → r.says d (take 81 line) ≡ r.says d line

-- two pieces come to the same as both at once
pub record InPieces {D : Type 0} (r : Reader D) : Type 0 where
  pub fed_on : (m : Midst D) (first second : List ℕ) → fed r (fed r m first) second ≡ fed r m (first ++ second)
  pub said_on : (m : Midst D) (first second : List ℕ) → said r m first ++ said r (fed r m first) second ≡ said r m (first ++ second)

-- a log fed to a reader comes to what its lines do
pub record AsLines {D : Type 0} (r : Reader D) : Type 0 where
  pub state_is : (d : D) (log : List ℕ) → at_end r (fed r (midst d []) log) ≡ after_lines r d (lines_of log)
  pub said_is : (d : D) (log : List ℕ) → said r (midst d []) log ++ said_at_end r (fed r (midst d []) log) ≡ said_of r d (lines_of log)

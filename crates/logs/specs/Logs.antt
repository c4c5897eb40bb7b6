-- A log, cut into lines.
use Rattle.std.specs.Prelude.{◌≡◌, ℕ, ◌<◌, cond, List, [], ◌∷◌, length, Some, None, Option, ◌==◌, ◌≢◌, slice_index}

-- a character before the first line, or a line of its own where there is none
abbrev pub onto : ℕ → List (List ℕ) → List (List ℕ)
onto c [] = (c ∷ []) ∷ []
onto c (line ∷ lines) = (c ∷ line) ∷ lines

-- The lines of a log: it is cut at each newline, byte 10, and no line follows a last one.
abbrev pub lines_of : List ℕ → List (List ℕ)
lines_of [] = []
lines_of (b ∷ bytes) = cond (b == 10) ([] ∷ lines_of bytes) (onto b (lines_of bytes))

-- the position of the first newline
abbrev pub LineEnd : List ℕ → Option ℕ → Type 0
LineEnd bytes None = (k : ℕ) → k < length bytes → slice_index bytes k ≢ 10
LineEnd bytes (Some n) = (n < length bytes) × (slice_index bytes n ≡ 10) × ((k : ℕ) → k < n → slice_index bytes k ≢ 10)

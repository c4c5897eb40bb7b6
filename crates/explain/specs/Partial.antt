-- How a line is read of which the first characters were kept.
use Rattle.std.specs.Prelude.{◌≡◌, ℕ, List, length, take, Option, Result}
use Rattle.frames.specs.declared.refusal.LineRefusal.{LineRefusal}
use Rattle.frames.specs.Lines.{line_bytes, answer, written}

-- The answer, and the buffer then, are those of each whole line that begins with the characters kept.
abbrev pub ReadAs : List ℕ → List ℕ → List ℕ → Result (Option ℕ) LineRefusal → Type 0
ReadAs characters before after r = (line : List ℕ) → characters ≡ take 81 line →
    (r ≡ answer (line_bytes line (length before))) × (after ≡ written (line_bytes line (length before)) before)

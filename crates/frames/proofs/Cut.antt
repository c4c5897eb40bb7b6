-- A line of which 81 characters are kept.
use Rattle.std.proofs.Common.{◌≡◌, ℕ, ◌<◌, List, length, take, refl, ap, ⊎_elim, arith}
use Rattle.std.proofs.lemmas.List.{take_all, length-take-le}
use Rattle.std.proofs.lemmas.Bool.{lt-leb, cases_lt}
use Rattle.frames.specs.Lines.{line_bytes}

-- a line is read by its first 81 characters
pub cut : (line : List ℕ) (room : ℕ) → line_bytes (take 81 line) room ≡ line_bytes line room
cut line room = ⊎_elim long (λ short. ap (λ l. line_bytes l room) (take_all 81 line short)) (cases_lt 81 (length line))
  where
    long : 81 < length line → line_bytes (take 81 line) room ≡ line_bytes line room
    long past =
        let a = lt-leb (length (take 81 line)) 80 (omega (arith, length-take-le 81 line (omega arith))) in
        let b = lt-leb (length line) 80 (omega arith) in
        rw (a, b) refl

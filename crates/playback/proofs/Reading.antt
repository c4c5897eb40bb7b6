-- A day reads a line by its first 81 characters.
use Rattle.std.proofs.Common.{◌≡◌, ℕ, cond, List, [], take, ap}
use Rattle.std.specs.Prelude.{nat_lt}
use Rattle.kinds.specs.Answers.{◌>>=◌, test}
use Rattle.links.specs.Columns.{Columns}
use Rattle.frames.proofs.Cut.{cut}
use Rattle.logs.specs.Feeding.{Reads81}
use Rattle.playback.specs.declared.fault.Cause.TheVariants.{TooManyLines}
use Rattle.playback.specs.Days.{Day, ended, read, played, outcome, counted, number}
use Rattle.playback.specs.Readers.{reported, reader}

-- the whole line comes to what its first 81 characters come to
outcome_cut : {R : Type 0} (row : Columns R) (day : Day R) (line : List ℕ) → outcome row day (take 81 line) ≡ outcome row day line
outcome_cut row day line = ap (λ bytes. test (nat_lt day.lines 1000000) TooManyLines >>= λ _. read bytes >>= played row day.state) (cut line 64)

pub reads81 : {R : Type 0} (row : Columns R) → Reads81 (reader row)
reads81 row = record {
  next_cut = λ day line. ap (λ o. cond (ended day) day (counted day o)) (outcome_cut row day line);
  says_cut = λ day line. ap (λ o. cond (ended day) [] (reported (number day) o)) (outcome_cut row day line);
}

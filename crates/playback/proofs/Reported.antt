-- A line that is played is reported as its outcome is.
use Rattle.std.proofs.Common.{◌≡◌, ℕ, true, false, cond, List, [], Some, None, Ok, Err, Option, Result, sym, refl, ap, ◌∙◌}
use Rattle.links.specs.Columns.{Columns}
use Rattle.frames.specs.declared.frame.Operation.{Operation}
use Rattle.frames.specs.Edits.{Edit}
use Rattle.documents.specs.Attempts.{State}
use Rattle.playback.specs.declared.fault.Cause.{Cause}
use Rattle.playback.specs.declared.fault.LineFault.{LineFault}
use Rattle.playback.specs.declared.replay.Replay.{Replay}
use Rattle.playback.specs.Causes.{cause_number}
use Rattle.playback.specs.Days.{ended, outcome, answer, next, counted, number}
use Rattle.playback.specs.Readers.{reported, report}
use Rattle.printing.specs.Texts.{refusal_line}
use Rattle.playback.specs.States.{day, PlaysLine}

-- an outcome that is answered by no refusal is not reported
unreported : {R : Type 0} (n : ℕ) (o : Result (Option (Edit × State R)) Cause) (p : Option Edit) → Ok p ≡ answer o → [] ≡ reported n o
unreported n (Ok a) p e = refl
unreported n (Err cause) p e = cc

-- an outcome that is answered by a refusal is reported by its number
refusal : {R : Type 0} (n : ℕ) (o : Result (Option (Edit × State R)) Cause) (cause : Cause) → Err cause ≡ answer o → refusal_line n (cause_number cause) ≡ reported n o
refusal n (Ok None) cause e = cc
refusal n (Ok (Some a)) cause e = cc
refusal n (Err other) cause e = let same : cause ≡ other = cc in ap (λ c. refusal_line n (cause_number c)) same

module _ {R : Type 0} (row : Columns R) (s : Replay R) (line : List ℕ) where
  -- once the day has ended nothing is reported, and nothing counts
  module _ (over : ended (day s) ≡ true) where
    pub nothing_said : [] ≡ report row (day s) line
    nothing_said = sym (ap (λ e. cond e [] (reported (number (day s)) (outcome row (day s) line))) over)

    pub nothing_next : day s ≡ next row (day s) line
    nothing_next = sym (ap (λ e. cond e (day s) (counted (day s) (outcome row (day s) line))) over)

  module _ (on : ended (day s) ≡ false) where
    -- before that, its outcome is
    outcome_said : report row (day s) line ≡ reported (number (day s)) (outcome row (day s) line)
    outcome_said = ap (λ e. cond e [] (reported (number (day s)) (outcome row (day s) line))) on

    pub accepted_said : (t : Replay R) (p : Option Operation) → PlaysLine row s line (Ok p) t → [] ≡ report row (day s) line
    accepted_said t p plays = unreported (number (day s)) (outcome row (day s) line) _ plays.answers ∙ sym outcome_said

    pub refused_said : (t : Replay R) (f : LineFault) → PlaysLine row s line (Err f) t → refusal_line f.line (cause_number f.cause) ≡ report row (day s) line
    refused_said t f plays =
        ap (λ n. refusal_line n (cause_number f.cause)) plays.names
        ∙ refusal (number (day s)) (outcome row (day s) line) f.cause plays.answers ∙ sym outcome_said

-- A line that is tried and then counted is played.
use Rattle.std.proofs.Common.{◌≡◌, ℕ, ◌+◌, ◌≤◌, min, false, cond, List, Some, None, Ok, Err, Option, Result, sym, refl, ap, ◌∙◌, arith}
use Rattle.std.proofs.lemmas.Bool.{ltb-false}
use Rattle.links.specs.Columns.{Columns}
use Rattle.frames.specs.declared.frame.Operation.{Operation}
use Rattle.frames.specs.Edits.{Edit}
use Rattle.documents.specs.Attempts.{State}
use Rattle.pair.specs.Cells.{mapped}
use Rattle.playback.specs.declared.fault.Cause.{Cause}
use Rattle.playback.specs.declared.fault.LineFault.{LineFault}
use Rattle.playback.specs.declared.replay.Replay.{Replay}
use Rattle.playback.specs.Days.{Day, ended, outcome, counted, answer, state_then}
use Rattle.playback.specs.States.{day, translation, told, Names, Tries, accepts, refuses, on_line, Counts, PlaysLine}

same_day : {R : Type 0} (a b : Day R) → a.state ≡ b.state → a.lines ≡ b.lines → a.accepted ≡ b.accepted → a.refused ≡ b.refused → a ≡ b
same_day a b p q r s = λ i. record { state = p i; lines = q i; accepted = r i; refused = s i }

told_on : (n : ℕ) (tried : Result (Option Operation) Cause) → told (on_line n tried) ≡ mapped translation tried
told_on n (Ok p) = refl
told_on n (Err c) = refl

names_on : (n : ℕ) (tried : Result (Option Operation) Cause) → Names n (on_line n tried)
names_on n (Ok p) = tt
names_on n (Err c) = refl

-- the counts that an outcome adds are those of the answer
module _ {R : Type 0} (d : Day R) where
  added : (o : Result (Option (Edit × State R)) Cause) (tried : Result (Option Operation) Cause) → mapped translation tried ≡ answer o →
      ((counted d o).lines ≡ d.lines + 1) × ((counted d o).accepted ≡ d.accepted + accepts tried) × ((counted d o).refused ≡ d.refused + refuses tried) × ((counted d o).state ≡ state_then d.state o)
  added (Ok None) (Ok None) e = (refl, (omega arith), (omega arith), refl)
  added (Ok None) (Ok (Some operation)) e = cc
  added (Ok None) (Err c) e = cc
  added (Ok (Some a)) (Ok None) e = cc
  added (Ok (Some a)) (Ok (Some operation)) e = (refl, refl, (omega arith), refl)
  added (Ok (Some a)) (Err c) e = cc
  added (Err cause) (Ok None) e = cc
  added (Err cause) (Ok (Some operation)) e = cc
  added (Err cause) (Err c) e = (refl, (omega arith), refl, refl)

pub plays_line : {R : Type 0} (row : Columns R) (s u t : Replay R) (line : List ℕ) (tried : Result (Option Operation) Cause) (r : Result (Option Operation) LineFault) →
    ended (day s) ≡ false → Tries row s line tried u → Counts u tried r t → PlaysLine row s line r t
plays_line row s u t line tried r on a b =
    let few : s.lines ≤ 1000000 = ltb-false 1000000 s.lines on in
    let more = added (day s) (outcome row (day s) line) tried a.answers in
    let n : u.lines + 1 ≡ min (s.lines + 1) 1000001 = omega (arith, a.lines_stay) in
    record {
      answers = ap told b.answers ∙ told_on (u.lines + 1) tried ∙ a.answers;
      names = rw (b.answers, sym n) (names_on (u.lines + 1) tried);
      leaves =
          same_day (day t) (counted (day s) (outcome row (day s) line))
          (b.same_state ∙ a.leaves ∙ sym more.3)
          (b.one_more ∙ ap (λ k. k + 1) a.lines_stay ∙ sym more.0)
          (b.more_accepted ∙ ap (λ k. k + accepts tried) a.accepted_stay ∙ sym more.1)
          (b.more_refused ∙ ap (λ k. k + refuses tried) a.refused_stay ∙ sym more.2)
          ∙ sym (ap (λ e. cond e (day s) (counted (day s) (outcome row (day s) line))) on);
      stays = b.same_start ∙ a.start_stays;
    }

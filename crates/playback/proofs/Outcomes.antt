-- What a line comes to, by what its reading and the pair answer.
use Rattle.std.proofs.Common.{◌≡◌, ℕ, ◌<◌, List, ◌++◌, length, take, drop, Some, None, Ok, Err, Option, Result, sym, refl, ap, ◌∙◌}
use lib.Seq.{take-append_seam}
use Rattle.std.proofs.lemmas.Bool.{lt-ltb}
use Rattle.kinds.specs.Answers.{◌>>=◌, test}
use Rattle.links.specs.Columns.{Columns}
use Rattle.frames.specs.Edits.{Edit, edit}
use Rattle.frames.specs.Lines.{line_bytes, answer as line_answer, written}
use Rattle.frames.specs.declared.refusal.LineRefusal.{LineRefusal}
use Rattle.frames.specs.declared.frame.Operation.{Operation}
use Rattle.documents.specs.declared.fault.Fault.{Fault}
use Rattle.documents.specs.Attempts.{State, attempt, answer as pair_answer, state_then as pair_state}
use Rattle.pair.specs.State.{said}
use Rattle.playback.specs.declared.fault.Cause.{Cause}
use Rattle.playback.specs.declared.fault.Cause.TheVariants.{TooManyLines, Frame}
use Rattle.playback.specs.Days.{Day, read, taken, played, outcome, answer, state_then}

-- the bytes that a line gives stand at the buffer's front
pub bytes_read : (a : Result (Option (List ℕ)) LineRefusal) (before after : List ℕ) (count : ℕ) → Ok (Some count) ≡ line_answer a → after ≡ written a before → a ≡ Ok (Some (take count after))
bytes_read (Ok None) before after count e w = cc
bytes_read (Ok (Some bs)) before after count e w =
    let n : count ≡ length bs = cc in
    ap (λ l. Ok (Some l)) (sym (take-append_seam bs (drop (length bs) before)) ∙ ap (λ k. take k (bs ++ drop (length bs) before)) (sym n) ∙ ap (take count) (sym w))
bytes_read (Err r) before after count e w = cc

pub skip_read : (a : Result (Option (List ℕ)) LineRefusal) → Ok None ≡ line_answer a → a ≡ Ok None
skip_read (Ok None) e = refl
skip_read (Ok (Some bs)) e = cc
skip_read (Err r) e = cc

pub refusal_read : (a : Result (Option (List ℕ)) LineRefusal) (r : LineRefusal) → Err r ≡ line_answer a → a ≡ Err r
refusal_read (Ok None) r e = cc
refusal_read (Ok (Some bs)) r e = cc
refusal_read (Err s) r e = cc

-- what the caller is told of a frame
told_frame : Result Edit Fault → Result (Option Edit) Cause
told_frame (Ok e) = Ok (Some e)
told_frame (Err f) = Err (Frame f)

answer_frame : {R : Type 0} (a : Result (Edit × State R) Fault) → answer (taken a) ≡ told_frame (pair_answer a)
unfolding told_frame
answer_frame (Ok a) = refl
answer_frame (Err f) = refl

state_frame : {R : Type 0} (d : State R) (a : Result (Edit × State R) Fault) → state_then d (taken a) ≡ pair_state d a
state_frame d (Ok a) = refl
state_frame d (Err f) = refl

module _ {R : Type 0} (row : Columns R) (day : Day R) (line : List ℕ) where
  module _ (few : day.lines < 1000000) (a : Result (Option (List ℕ)) LineRefusal) (is : line_bytes line 64 ≡ a) where
    -- the line is read
    pub outcome_read : outcome row day line ≡ (read a >>= played row day.state)
    outcome_read =
        ap (λ b. test b TooManyLines >>= λ _. read (line_bytes line 64) >>= played row day.state) (lt-ltb day.lines 1000000 few)
        ∙ ap (λ r. read r >>= played row day.state) is

  -- the line gives the bytes of a frame, which the code hands to the pair
  pub frame_is : day.lines < 1000000 → (before after : List ℕ) (count : ℕ) → Ok (Some count) ≡ line_answer (line_bytes line 64) → after ≡ written (line_bytes line 64) before →
      outcome row day line ≡ taken (attempt row day.state (take count after))
  frame_is few before after count answers writes =
      outcome_read few (Ok (Some (take count after))) (bytes_read (line_bytes line 64) before after count answers writes)

-- a frame that the pair answers
module _ {R : Type 0} (a : Result (Edit × State R) Fault) (o : Result (Option (Edit × State R)) Cause) (is : o ≡ taken a) where
  pub frame_accepted : (op : Operation) → said (Ok op) ≡ pair_answer a → Ok (Some (edit op)) ≡ answer o
  unfolding told_frame
  frame_accepted op h = ap told_frame h ∙ sym (answer_frame a) ∙ sym (ap answer is)

  pub frame_refused : (f : Fault) → said (Err f) ≡ pair_answer a → Err (Frame f) ≡ answer o
  unfolding told_frame
  frame_refused f h = ap told_frame h ∙ sym (answer_frame a) ∙ sym (ap answer is)

  pub frame_leaves : (d e : State R) → e ≡ pair_state d a → e ≡ state_then d o
  frame_leaves d e h = h ∙ sym (state_frame d a) ∙ sym (ap (state_then d) is)

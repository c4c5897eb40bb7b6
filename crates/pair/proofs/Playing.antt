-- An attempt is what is given where the bytes say it.
use Rattle.std.proofs.Common.{◌≡◌, List, ℕ, Ok, Result, sym, ap, ◌∙◌, subst}
use Rattle.kinds.specs.Answers.{◌>>=◌}
use Rattle.kinds.specs.declared.side.Side.{Side}
use Rattle.links.specs.Columns.{Columns}
use Rattle.frames.specs.declared.frame.Frame.{Frame}
use Rattle.frames.specs.declared.frame.Operation.{Operation}
use Rattle.frames.specs.Edits.{edit}
use Rattle.frames.specs.Frames.{frame}
use Rattle.documents.specs.declared.fault.Fault.{Fault}
use Rattle.documents.specs.Attempts.{read, given, attempt}
use Rattle.pair.specs.declared.pair.Pair.{Pair}
use Rattle.pair.specs.State.{state, Plays}

module _ {R : Type 0} (row : Columns R) (s t : Pair R) (bytes : List ℕ) (r : Result Operation Fault) where
  pub plays_frame : (side : Side) (f : Frame) → Ok (f.side, edit f.operation) ≡ frame bytes → f.side ≡ side → Plays (given row side (edit f.operation) (state s)) s r t → Plays (attempt row (state s) bytes) s r t
  plays_frame side f says is h =
      let given_is : given row f.side (edit f.operation) (state s) ≡ attempt row (state s) bytes = ap (λ b. read b >>= λ w. given row w.0 w.1 (state s)) says in
      subst (λ w. Plays w s r t) (ap (λ z. given row z (edit f.operation) (state s)) (sym is) ∙ given_is) h

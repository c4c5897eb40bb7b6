-- A row that is read at a side's position, and a record that is left as it is.
use Rattle.std.proofs.Common.{◌≡◌, ℕ, true, List, Some as some, None as none, Ok, Err, Option, Result, refl, ap, ◌∙◌}
use Rattle.kinds.specs.Answers.{◌>>=◌, need}
use Rattle.kinds.specs.declared.side.Side.{Side}
use Rattle.kinds.specs.declared.side.Side.TheVariants.{Left, Right}
use Rattle.documents.specs.declared.fault.Fault.{Fault}
use Rattle.documents.specs.declared.fault.Fault.TheVariants.{NotInDocument, NotARecord}
use Rattle.documents.specs.Documents.{Line, record_line, remark_line, line_row, item, form}
use Rattle.documents.specs.Across.{is_record}
use Rattle.documents.specs.Attempts.{State, document}
use Rattle.documents.proofs.Places.{item_there, item_below, set_item}
use Rattle.documents.proofs.Finding.{told_record}
use Rattle.pair.specs.Cells.{mapped, row_at}
use Rattle.pair.specs.Edits.{with_row}
use Rattle.pair.specs.Places.{HasRecord}

-- an item that is needed is itself the answer
needed : {X E : Type 0} (o : Option X) (e f : E) → need o e ≡ (need o e >>= λ x. need (some x) f)
needed none e f = refl
needed (some x) e f = refl

line_there : (o : Option Line) (told : ℕ) (x : List ℕ) → Ok x ≡ (need o (NotInDocument told) >>= λ l. need (line_row l) (NotARecord told)) → is_record o ≡ true
line_there none told x e = cc
line_there (some (record_line r)) told x e = refl
line_there (some (remark_line t)) told x e = cc

record_there : {E : Type 0} (o : Option (List ℕ)) (e f : E) (x : List ℕ) → Ok x ≡ (need o e >>= λ y. need (some y) f) → o ≡ some x
record_there none e f x h = cc
record_there (some y) e f x h = cc

module _ {R : Type 0} (d : State R) (told p : ℕ) where
  -- where a row was read at a side's position, a record is there
  row_there : (s : Side) (a : Result (List ℕ) Fault) → a ≡ row_at (form s) told p (document s d) → elim a as (λ _. Type 0) [ Ok _ ↦ HasRecord s p d | Err _ ↦ Unit {0} ]
  row_there s (Err f) e = tt
  row_there Left (Ok x) e = line_there (item d.lines p) told x e
  row_there Right (Ok x) e = item_below d.records p x (record_there (item d.records p) (NotInDocument told) (NotARecord told) x e)

  pub row_read : (s : Side) (a : Result (List ℕ) Fault) → a ≡ row_at (form s) told p (document s d) →
      record { value : a ≡ row_at (form s) told p (document s d); there : elim a as (λ _. Type 0) [ Ok _ ↦ HasRecord s p d | Err _ ↦ Unit {0} ] }
  row_read s a e = record { value = e; there = row_there s a e }

  pub line_read : (s : Side) (a : Result (List ℕ) Fault) → s ≡ Left → a ≡ row_at (form Left) told p d.lines → a ≡ row_at (form s) told p (document s d)
  line_read Left a is e = e
  line_read Right a is e = cc

  pub record_read : (s : Side) (a : Result (List ℕ) Fault) → s ≡ Right → a ≡ need (item d.records p) (NotInDocument told) → a ≡ row_at (form s) told p (document s d)
  record_read Left a is e = cc
  record_read Right a is e = e ∙ needed (item d.records p) (NotInDocument told) (NotARecord told)

-- a record keeps its row
pub row_kept : {R : Type 0} (s : Side) (d : State R) (told p : ℕ) (a : Result (List ℕ) Fault) → HasRecord s p d → a ≡ row_at (form s) told p (document s d) → mapped (with_row s p d) a ≡ Ok (document s d)
row_kept Left d told p a h e =
    let x = told_record d.lines p h in
    ap (mapped (with_row Left p d)) (e ∙ ap (λ o. need o (NotInDocument told) >>= λ l. need ((form Left).row l) (NotARecord told)) x.1)
    ∙ ap Ok (set_item d.lines p (record_line x.0) x.1)
row_kept Right d told j a h e =
    let x = item_there d.records j h in
    ap (mapped (with_row Right j d)) (e ∙ ap (λ o. need o (NotInDocument told) >>= λ y. need ((form Right).row y) (NotARecord told)) x.1)
    ∙ ap Ok (set_item d.records j x.0 x.1)

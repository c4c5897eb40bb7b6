-- Worked values of kinds, links and edits, in one statement.
use Rattle.std.specs.Prelude.{◌≡◌, ℕ, ◌<◌, pos, negsuc, List, Some, Ok, Err, Result}
use Rattle.std.proofs.Common.{arith}
use Rattle.kinds.specs.Answers.{◌>>=◌}
use Rattle.kinds.specs.Kinds.{new_kind, apply, fold}
use Rattle.kinds.specs.declared.change.Change.{Change}
use Rattle.kinds.specs.declared.change.Change.TheVariants.{Keep, Add, Set, Mask}
use Rattle.kinds.specs.declared.kind.Letter.TheVariants.{Amount, Flags}
use Rattle.kinds.specs.declared.refusal.Refusal.TheVariants.{DoesNotApply}
use Rattle.links.specs.Laws.{answer, link_after}
use Rattle.links.specs.declared.refusal.CarryRefusal.{CarryRefusal}
use Rattle.links.specs.declared.refusal.CarryRefusal.TheVariants.{NoTranslation}
use Rattle.supplied.specs.Carries.{carrying}
use Rattle.supplied.specs.Memoryless.{label}
use Rattle.supplied.specs.declared.carry.Carry.{Carry}
use Rattle.documents.specs.Documents.{Line}
use Rattle.documents.specs.Worked.{Worked}

-- the link to at most 9 lots of 1,000, with so much left over
abbrev pub nine_lots : (rest : ℕ) → rest < 1000 → Carry
nine_lots rest below = record { ratio = 1000; limit = 9; rest = rest; positive = omega arith; small = omega arith; below = below }

-- what that link answers to a change of the amount, and what is left over then
abbrev pub Lots : ℕ → Change → Result Change CarryRefusal → ℕ → Type 0
Lots rest e answered left = (below : rest < 1000) →
    let c = nine_lots rest below in
    (answer (carrying.rightward c e) ≡ answered) × ((link_after c (carrying.rightward c e)).rest ≡ left)

-- What comes of changes of an amount up to a limit, of flags, of lots and of a label, and of edits of a sheet with these lines.
pub record WorkedCases (limit : ℕ) (lines : List Line) : Type 0 where
  -- 4 and 6 more are 10, and 7 more are too many
  pub six_more : (new_kind Amount limit >>= λ k. apply k (Add (pos 6)) 4) ≡ Ok 10
  pub seven_more : (new_kind Amount limit >>= λ k. apply k (Add (pos 7)) 4) ≡ Err DoesNotApply
  -- one less and one more fold to keep
  pub there_and_back : (new_kind Amount limit >>= λ k. fold k (Add (negsuc 0)) (Add (pos 1))) ≡ Ok (Some Keep)
  -- of 12, mask 5 takes bit 2 away and puts bit 0 in
  pub under_a_mask : (new_kind Flags 15 >>= λ k. apply k (Mask 5 1) 12) ≡ Ok 9
  -- a lot that is filled is carried, one that is broken is taken back, and ten are too many
  pub lot_filled : Lots 999 (Add (pos 1)) (Ok (Add (pos 1))) 0
  pub lot_broken : Lots 0 (Add (negsuc 0)) (Ok (Add (negsuc 0))) 999
  pub too_many_lots : Lots 0 (Add (negsuc 9998)) (Err NoTranslation) 0
  -- 131 is 1000 0011, and 193 is 1100 0001
  pub label_reversed : answer (label.rightward (record {}) (Set 131)) ≡ Ok (Set 193)
  -- edits of the sheet and of its table, told to the other
  pub edits : Worked lines

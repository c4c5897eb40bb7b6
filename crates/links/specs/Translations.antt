-- Carrying that changes no memory.
use Rattle.std.specs.Prelude.{ℕ, ◌≤◌, cond, Ok, Err, Result}
use Rattle.kinds.specs.declared.kind.Kind.{Kind}
use Rattle.kinds.specs.declared.change.Change.{Change}
use Rattle.kinds.specs.Changes.{plain}
use Rattle.kinds.specs.Kinds.{of_kind}
use Rattle.links.specs.declared.refusal.CarryRefusal.{CarryRefusal}
use Rattle.links.specs.declared.refusal.CarryRefusal.TheVariants.{NotOfKind}
use Rattle.links.specs.Laws.{Carried, sent, refused, Lens}

-- the change in its plain form, where it is of the kind
abbrev pub admitted : Kind → Change → Result Change CarryRefusal
admitted near e = cond (of_kind near e) (Ok (plain e)) (Err NotOfKind)

-- a change of the kind is translated in its plain form, and any other is refused
abbrev pub translated : {S : Type 0} → Kind → (Change → Change) → S → Change → Carried S
translated near f s e = cond (of_kind near e) (sent (f (plain e)) s) (refused NotOfKind)

-- a relation, on values within the limits of two kinds
abbrev pub Related : Kind → Kind → (ℕ → ℕ → Type 0) → ℕ → ℕ → Type 0
Related left right relation x y = (x ≤ left.limit) × (y ≤ right.limit) × relation x y

-- a link without memory: its kinds, how its values are related, and the translation of plain changes each way
abbrev pub memoryless : {S : Type 0} → (S → Kind) → (S → Kind) → (S → ℕ → ℕ → Type 0) → (S → Change → Change) → (S → Change → Change) → Lens S
memoryless left right relation to_right to_left = record {
  left = left;
  right = right;
  fresh = λ s. s;
  agrees = λ s. Related (left s) (right s) (relation s);
  rightward = λ s. translated (left s) (to_right s) s;
  leftward = λ s. translated (right s) (to_left s) s;
}

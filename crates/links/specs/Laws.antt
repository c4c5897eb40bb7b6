-- The law of a link: what a link is, what one direction of it promises, and that both directions promise it.
use Rattle.std.specs.Prelude.{◌≡◌, ℕ, ◌≤◌, Bool, true, false, Some, Ok, Err, Result}
use Rattle.kinds.specs.declared.kind.Kind.{Kind}
use Rattle.kinds.specs.declared.change.Change.{Change}
use Rattle.kinds.specs.declared.change.Change.TheVariants.{Keep}
use Rattle.kinds.specs.Changes.{plain}
use Rattle.kinds.specs.Kinds.{of_kind, apply, fold}
use Rattle.kinds.specs.declared.side.Side.{Side}
use Rattle.kinds.specs.declared.side.Side.TheVariants.{Left, Right}
use Rattle.links.specs.declared.refusal.CarryRefusal.{CarryRefusal}
use Rattle.links.specs.declared.refusal.CarryRefusal.TheVariants.{NotOfKind}

-- what carrying a change comes to: a change for the other side and the link with its new memory, or a refusal
pub data Carried (S : Type 0) : Type 0 where
  sent : Change → S → Carried S
  refused : CarryRefusal → Carried S

-- what the caller is told
abbrev pub answer : {S : Type 0} → Carried S → Result Change CarryRefusal
answer (sent f t) = Ok f
answer (refused n) = Err n

-- the link afterwards: a refusal leaves it as it was
abbrev pub link_after : {S : Type 0} → S → Carried S → S
link_after s (sent f t) = t
link_after s (refused n) = s

-- A link in one direction, from values of the kind `near` to values of the kind `far`. A link s is a build with a memory;
-- `fresh s` is the link of the same build just reset, and stands for the build.
pub record Way (S : Type 0) : Type 1 where
  pub near : S → Kind
  pub far : S → Kind
  pub fresh : S → S
  pub agrees : S → ℕ → ℕ → Type 0
  pub carry : S → Change → Carried S

-- a link in both directions; `agrees` takes the left value first
pub record Lens (S : Type 0) : Type 1 where
  pub left : S → Kind
  pub right : S → Kind
  pub fresh : S → S
  pub agrees : S → ℕ → ℕ → Type 0
  pub rightward : S → Change → Carried S
  pub leftward : S → Change → Carried S

-- the direction that starts at a side: from the right the agreement is turned round
abbrev pub from : {S : Type 0} → Side → Lens S → Way S
from Left l = record { near = l.left; far = l.right; fresh = l.fresh; agrees = l.agrees; carry = l.rightward }
from Right l = record { near = l.right; far = l.left; fresh = l.fresh; agrees = λ s y x. l.agrees s x y; carry = l.leftward }

-- The law of one direction.
pub record Sends {S : Type 0} (w : Way S) : Type 0 where
  -- where x and y agree, a change that applies to x is carried to one that applies to y, and the results agree
  pub follows : (s : S) (x y v : ℕ) (e : Change) → w.agrees s x y → apply (w.near s) e x ≡ Ok v →
      (t : S) × (f : Change) × (u : ℕ) × (w.carry s e ≡ sent f t) × (apply (w.far s) f y ≡ Ok u) × w.agrees t v u
  -- keep is carried to keep, and the memory stays
  pub still : (s : S) (e : Change) → plain e ≡ Keep → w.carry s e ≡ sent Keep s
  -- where x and y agree and e and f apply to x in turn, carrying their fold gives the fold of the carried changes, and the same memory
  pub folds : (s t u : S) (x y v z : ℕ) (e f g h : Change) → w.agrees s x y → apply (w.near s) e x ≡ Ok v → apply (w.near s) f v ≡ Ok z →
      w.carry s e ≡ sent g t → w.carry t f ≡ sent h u →
      (a b : Change) × (fold (w.near s) e f ≡ Ok (Some a)) × (fold (w.far s) g h ≡ Ok (Some b)) × (w.carry s a ≡ sent b u)
  -- a change that is not of the kind is refused as such
  pub refuses : (s : S) (e : Change) → of_kind (w.near s) e ≡ false → w.carry s e ≡ refused NotOfKind
  -- an answered change is plain and of the far kind
  pub answers : (s t : S) (e f : Change) → w.carry s e ≡ sent f t → (plain f ≡ f) × (of_kind (w.far s) f ≡ true)
  -- carrying keeps the build
  pub keeps : (s t : S) (e f : Change) → w.carry s e ≡ sent f t → w.fresh t ≡ w.fresh s

-- The law of a link.
pub record Lawful {S : Type 0} (l : Lens S) : Type 0 where
  -- after a reset 0 and 0 agree
  pub starts : (s : S) → l.agrees (l.fresh s) 0 0
  -- values that agree lie within the limits
  pub bounded : (s : S) (x y : ℕ) → l.agrees s x y → (x ≤ (l.left s).limit) × (y ≤ (l.right s).limit)
  -- a reset keeps the build
  pub resets : (s : S) → l.fresh (l.fresh s) ≡ l.fresh s
  -- links of one build have the same kinds
  pub kinds : (s t : S) → l.fresh s ≡ l.fresh t → (l.left s ≡ l.left t) × (l.right s ≡ l.right t)
  -- the law holds from either side
  pub sends : (side : Side) → Sends (from side l)

-- where the test holds, the values that agree are those that are so related
abbrev pub AgreeWhere : {S : Type 0} → (S → Bool) → Lens S → (S → ℕ → ℕ → Type 0) → Type 0
AgreeWhere {S} test l related = (s : S) (x y : ℕ) → test s ≡ true → (l.agrees s x y → related s x y) × (related s x y → l.agrees s x y)

-- the values that agree are those within the limits that are so related
abbrev pub AgreeBy : {S : Type 0} → Lens S → (S → ℕ → ℕ → Type 0) → Type 0
AgreeBy {S} l related = (s : S) (x y : ℕ) →
    (l.agrees s x y → (x ≤ (l.left s).limit) × (y ≤ (l.right s).limit) × related s x y) × ((x ≤ (l.left s).limit) × (y ≤ (l.right s).limit) × related s x y → l.agrees s x y)

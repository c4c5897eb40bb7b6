-- The laws of kinds.
use Rattle.std.specs.Prelude.{◌≡◌, ℕ, ◌-◌, ◌^◌, ◌<◌, ◌≤◌, true, ℤ, ◌+ℤ◌, Some, None, Ok, Decides, Option, Result, unsigned_abs}
use Rattle.kinds.specs.declared.kind.Kind.{Kind}
use Rattle.kinds.specs.declared.change.Change.{Change}
use Rattle.kinds.specs.declared.change.Change.TheVariants.{Keep, Add}
use Rattle.kinds.specs.declared.refusal.Refusal.{Refusal}
use Rattle.kinds.specs.Changes.{plain}
use Rattle.kinds.specs.Letters.{all_ones}
use Rattle.kinds.specs.Kinds.{same_kind, of_kind, apply, fold}

-- the limits of flags are one less than 2 to the power of 1 to 16
abbrev pub FlagsOnes : Type 0
FlagsOnes = (n : ℕ) → Decides (all_ones n) ((w : ℕ) × (1 ≤ w) × (w ≤ 16) × (n ≡ 2 ^ w - 1))

-- kinds with the same letter and limit are one
abbrev pub SameOne : Type 0
SameOne = (k l : Kind) → Decides (same_kind k l) (k ≡ l)

-- wherever e and then f apply, the answer is one change of the kind that does the same
abbrev pub StandsFor : Kind → Change → Change → Result (Option Change) Refusal → Type 0
StandsFor k e f answer = (v v1 v2 : ℕ) → apply k e v ≡ Ok v1 → apply k f v1 ≡ Ok v2 → (g : Change) × (answer ≡ Ok (Some g)) × (of_kind k g ≡ true) × (apply k g v ≡ Ok v2)

-- the fold of two changes that apply in turn is present, and does what they do
abbrev pub FoldsAct : Type 0
FoldsAct = (k : Kind) (e f : Change) → StandsFor k e f (fold k e f)

-- a change applies only to values within the limit, and gives such values
abbrev pub StaysWithin : Type 0
StaysWithin = (k : Kind) (e : Change) (v w : ℕ) → apply k e v ≡ Ok w → (v ≤ k.limit) × (w ≤ k.limit)

-- where both groupings of three changes are present, they are equal
abbrev pub FoldsAssociate : Type 0
FoldsAssociate = (k : Kind) (e f g ef fg x y : Change) → fold k e f ≡ Ok (Some ef) → fold k f g ≡ Ok (Some fg) → fold k ef g ≡ Ok (Some x) → fold k e fg ≡ Ok (Some y) → x ≡ y

-- two amounts whose sum lies outside −limit to limit
abbrev pub TooFar : ℕ → Change → Change → Type 0
TooFar limit e f = (c : ℤ) × (d : ℤ) × (e ≡ Add c) × (f ≡ Add d) × (limit < unsigned_abs (c +ℤ d))

-- the fold of two changes of the kind is absent exactly where they are too far
abbrev pub AbsentTooFar : Type 0
AbsentTooFar = (k : Kind) (e f : Change) → of_kind k e ≡ true → of_kind k f ≡ true → (fold k e f ≡ Ok None → TooFar k.limit e f) × (TooFar k.limit e f → fold k e f ≡ Ok None)

-- a fold that is present is a change of the kind, in its plain form
abbrev pub FoldsPlain : Type 0
FoldsPlain = (k : Kind) (e f g : Change) → fold k e f ≡ Ok (Some g) → (plain g ≡ g) × (of_kind k g ≡ true)

-- keep folds away on either side
abbrev pub KeepFoldsAway : Type 0
KeepFoldsAway = (k : Kind) (e : Change) → of_kind k e ≡ true → (fold k Keep e ≡ Ok (Some (plain e))) × (fold k e Keep ≡ Ok (Some (plain e)))

-- the change is of every kind, and leaves each value as it is
abbrev pub Keeps : Change → Type 0
Keeps e = (k : Kind) → (of_kind k e ≡ true) × ((v : ℕ) → v ≤ k.limit → apply k e v ≡ Ok v)

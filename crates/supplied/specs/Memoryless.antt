-- The links that have no memory: equal values, hidden values, and labels read from the other end.
use Rattle.std.specs.Prelude.{◌≡◌, ℕ, ◌/◌, ◌%◌, ◌^◌, cond, Ok, Err, Result, refl}
use Rattle.std.specs.Int.{reverse_bits_onto}
use Rattle.kinds.specs.declared.kind.Letter.TheVariants.{Choice}
use Rattle.kinds.specs.declared.kind.Kind.{Kind}
use Rattle.kinds.specs.declared.change.Change.{Change}
use Rattle.kinds.specs.declared.change.Change.TheVariants.{Keep, Add, Set, Mask}
use Rattle.kinds.specs.Changes.{plain}
use Rattle.kinds.specs.Kinds.{blank, of_kind}
use Rattle.supplied.specs.declared.same.Same.{Same}
use Rattle.supplied.specs.declared.private.Private.{Private}
use Rattle.supplied.specs.declared.label.Label.{Label}
use Rattle.links.specs.declared.refusal.CarryRefusal.{CarryRefusal}
use Rattle.links.specs.declared.refusal.CarryRefusal.TheVariants.{NotOfKind}
use Rattle.links.specs.Laws.{Lens}
use Rattle.links.specs.Translations.{memoryless}

-- y is x, and changes pass in their plain form
abbrev pub same : Lens Same
same = memoryless (λ s. s.kind) (λ s. s.kind) (λ s x y. x ≡ y) (λ s p. p) (λ s p. p)

-- y is 0, and every change of x is carried to keep
abbrev pub private : Lens Private
private = memoryless (λ s. s.kind) (λ s. blank) (λ s x y. y ≡ 0) (λ s p. Keep) (λ s p. p)

-- the kind of a label: 256 choices
abbrev pub byte : Kind
byte = record { letter = Choice; limit = 255; proper = refl }

-- a number with its eight bits in reverse order
abbrev pub reversed : ℕ → ℕ
reversed x = reverse_bits_onto 8 x 0

-- bit i of a number
abbrev pub bit : ℕ → ℕ → ℕ
bit i x = x / 2 ^ i % 2

-- the label that is set, reversed
abbrev pub relabelled : Change → Change
relabelled Keep = Keep
relabelled (Add d) = Add d
relabelled (Set w) = Set (reversed w)
relabelled (Mask m s) = Mask m s

-- what a change of a label is carried to, either way
abbrev pub relabel : Change → Result Change CarryRefusal
relabel e = cond (of_kind byte e) (Ok (relabelled (plain e))) (Err NotOfKind)

-- y is x with its eight bits in reverse order
abbrev pub label : Lens Label
label = memoryless (λ s. byte) (λ s. byte) (λ s x y. y ≡ reversed x) (λ s. relabelled) (λ s. relabelled)

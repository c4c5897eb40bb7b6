-- The two layers: a link turned round, and two links one after the other.
use Rattle.std.specs.Prelude.{◌≡◌, ℕ, Bool, true, false, cond}
use Rattle.kinds.specs.declared.kind.Kind.{Kind}
use Rattle.kinds.specs.declared.change.Change.{Change}
use Rattle.kinds.specs.Kinds.{blank, same_kind}
use Rattle.links.specs.declared.flip.Flip.{Flip}
use Rattle.links.specs.declared.chain.Chain.{Chain}
use Rattle.links.specs.Laws.{Carried, sent, refused, Lens}
use Rattle.links.specs.Translations.{translated}

-- the same answer, with the link put into another
abbrev pub put : {S C : Type 0} → (S → C) → Carried S → Carried C
put wrap (sent f s) = sent f (wrap s)
put wrap (refused n) = refused n

-- a link with its sides exchanged
abbrev pub flip : {S : Type 0} → S → Flip S
flip s = record { inner = s }

-- what a flipped link is: left and right exchanged
abbrev pub flipped : {S : Type 0} → Lens S → Lens (Flip S)
flipped l = record {
  left = λ s. l.right s.inner;
  right = λ s. l.left s.inner;
  fresh = λ s. flip (l.fresh s.inner);
  agrees = λ s y x. l.agrees s.inner x y;
  rightward = λ s e. put flip (l.leftward s.inner e);
  leftward = λ s e. put flip (l.rightward s.inner e);
}

-- two links one after the other
abbrev pub chain : {S T : Type 0} → S → T → Chain S T
chain s t = record { first = s; second = t }

-- the change that one link answers is carried by the next; where either refuses, both keep what they had
abbrev pub in_turn : {S T C : Type 0} → (S → T → C) → Carried S → (Change → Carried T) → Carried C
in_turn pair (sent m s) next = put (pair s) (next m)
in_turn pair (refused n) next = refused n

-- the kinds in the middle of a chain are one
abbrev pub joined : {S T : Type 0} → Lens S → Lens T → Chain S T → Bool
joined l m c = same_kind (l.right c.first) (m.left c.second)

-- a chain that is not joined has two blank kinds
abbrev pub kind_if : Bool → Kind → Kind
kind_if b k = cond b k blank

-- a chain that is not joined has 0 on both sides
abbrev pub agree_if : Bool → Type 0 → ℕ → ℕ → Type 0
agree_if true both x y = both
agree_if false both x y = (x ≡ 0) × (y ≡ 0)

-- a chain that is not joined carries what is of the blank kind, keep alone
abbrev pub carry_if : {C : Type 0} → Bool → Carried C → C → Change → Carried C
carry_if b both c e = cond b both (translated blank (λ p. p) c e)

-- some middle value agrees with both
abbrev pub Through : {S T : Type 0} → Lens S → Lens T → Chain S T → ℕ → ℕ → Type 0
Through l m c x y = (z : ℕ) × l.agrees c.first x z × m.agrees c.second z y

-- what a chain is
abbrev pub chained : {S T : Type 0} → Lens S → Lens T → Lens (Chain S T)
chained l m = record {
  left = λ c. kind_if (joined l m c) (l.left c.first);
  right = λ c. kind_if (joined l m c) (m.right c.second);
  fresh = λ c. chain (l.fresh c.first) (m.fresh c.second);
  agrees = λ c x y. agree_if (joined l m c) (Through l m c x y) x y;
  rightward = λ c e. carry_if (joined l m c) (in_turn (λ s t. chain s t) (l.rightward c.first e) (m.rightward c.second)) c e;
  leftward = λ c e. carry_if (joined l m c) (in_turn (λ t s. chain s t) (m.leftward c.second e) (l.leftward c.first)) c e;
}

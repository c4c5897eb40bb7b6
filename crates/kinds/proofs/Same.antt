-- Kinds with the same letter and the same limit are one: the ghost field has one proof at most.
use Rattle.std.proofs.Common.{◌≡◌, ℕ, Bool, true, false, cond, eqb, Ok, Err, sym, refl, ap, ◌∙◌, arith}
use mathlib.Core.Bool.{So-prop}
use mathlib.Core.HLevel.{is_prop→PathP}
use Rattle.std.proofs.lemmas.Bool.{eqb-true}
use Rattle.std.proofs.lemmas.Bool.Decides.{nat_tests}
use denote.Enum.Bare.{sameb}
use Rattle.kinds.specs.contracts.kind.Letter.{the_type}
use Rattle.kinds.specs.declared.kind.Letter.{Letter}
use Rattle.kinds.specs.declared.kind.Letter.TheVariants.{Amount, Choice, Flags, Blank}
use Rattle.kinds.specs.declared.kind.Kind.{Kind}
use Rattle.kinds.specs.declared.refusal.Refusal.TheVariants.{NoSuchKind}
use Rattle.kinds.specs.Letters.{proper}
use Rattle.kinds.specs.Kinds.{blank, place, same_kind, tested, new_kind}
use Rattle.kinds.specs.Laws.{SameOne}
use Rattle.kinds.proofs.Clash.{clash}

pub kind_same : (k l : Kind) → k.letter ≡ l.letter → k.limit ≡ l.limit → k ≡ l
kind_same k l p q = λ i. record { letter = p i; limit = q i; proper = is_prop→PathP (λ j. proper (p j) (q j) ≡ true) (λ j. So-prop (proper (p j) (q j))) k.proper l.proper i }

-- the only kind of its letter
pub blank_only : (k : Kind) → k.letter ≡ Blank → k ≡ blank
blank_only k p = kind_same k blank p (eqb-true k.limit 0 (sym (ap (λ a. proper a k.limit) p) ∙ k.proper))

-- what is made where the test passes, and where it does not
tested_kind : (k : Kind) (b : Bool) (p : proper k.letter k.limit ≡ b) → Ok k ≡ tested k.letter k.limit b p
tested_kind k true p = ap Ok (kind_same k _ refl refl)
tested_kind k false p = clash (cc (p, k.proper))

pub new_kind_is : (k : Kind) → Ok k ≡ new_kind k.letter k.limit
unfolding new_kind
new_kind_is k = tested_kind k (proper k.letter k.limit) refl

tested_not : (a : Letter) (n : ℕ) (b : Bool) (p : proper a n ≡ b) → proper a n ≡ false → Err NoSuchKind ≡ tested a n b p
tested_not a n true p q = clash (cc (p, q))
tested_not a n false p q = refl

pub new_kind_not : (a : Letter) (n : ℕ) → proper a n ≡ false → Err NoSuchKind ≡ new_kind a n
unfolding new_kind
new_kind_not a n q = tested_not a n (proper a n) refl q

-- letters at the same place are one
abbrev letter_at : ℕ → Letter
letter_at n = cond (eqb n 0) Amount (cond (eqb n 1) Choice (cond (eqb n 2) Flags Blank))

at_place : (a : Letter) → a ≡ letter_at (place a)
at_place Amount = refl
at_place Choice = refl
at_place Flags = refl
at_place Blank = refl

pub same_place : (a b : Letter) → place a ≡ place b → a ≡ b
same_place a b h = at_place a ∙ ap letter_at h ∙ sym (at_place b)

-- letters are equal, as their derived equality says, exactly when their places are
pub same_letters : (a b : Letter) → sameb the_type a b ≡ eqb (place a) (place b)
same_letters Amount Amount = refl
same_letters Amount Choice = refl
same_letters Amount Flags = refl
same_letters Amount Blank = refl
same_letters Choice Amount = refl
same_letters Choice Choice = refl
same_letters Choice Flags = refl
same_letters Choice Blank = refl
same_letters Flags Amount = refl
same_letters Flags Choice = refl
same_letters Flags Flags = refl
same_letters Flags Blank = refl
same_letters Blank Amount = refl
same_letters Blank Choice = refl
same_letters Blank Flags = refl
same_letters Blank Blank = refl

-- the test of two kinds decides whether they are one
pub decides_same : SameOne
unfolding same_kind
decides_same k l = (one, same)
  where
    one : same_kind k l ≡ true → k ≡ l
    one h =
        let p : place k.letter ≡ place l.letter = grind (arith, nat_tests) in
        let q : k.limit ≡ l.limit = grind (arith, nat_tests) in
        kind_same k l (same_place k.letter l.letter p) q

    same : k ≡ l → same_kind k l ≡ true
    same e =
        let p : place k.letter ≡ place l.letter = ap (λ m. place m.letter) e in
        let q : k.limit ≡ l.limit = ap (λ m. m.limit) e in
        grind (arith, nat_tests)

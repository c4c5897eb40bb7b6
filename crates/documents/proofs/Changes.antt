-- Changes of a kind: one that keeps leaves the value, and each one's numbers fit a frame.
use Rattle.std.proofs.Common.{◌≡◌, ℕ, ◌+◌, ◌≤◌, true, false, ◌&&◌, eqb, leb, ℤ, pos, negsuc, nat_abs, Ok, sym, ap, ◌∙◌, arith, w32, SFits}
use lib.Bits.{bit_and, and_le_r}
use Rattle.std.proofs.lemmas.Bool.{leb-true, eqb-true, and_parts}
use Rattle.kinds.specs.declared.kind.Letter.{Letter}
use Rattle.kinds.specs.declared.kind.Letter.TheVariants.{Amount, Choice, Flags, Blank}
use Rattle.kinds.specs.declared.kind.Kind.{Kind}
use Rattle.kinds.specs.declared.change.Change.{Change}
use Rattle.kinds.specs.declared.change.Change.TheVariants.{Keep, Add, Set, Mask}
use Rattle.kinds.specs.Changes.{plain}
use Rattle.kinds.specs.Letters.{proper}
use Rattle.kinds.specs.Kinds.{fits, of_kind, apply}
use Rattle.kinds.proofs.Folding.{applied}
use Rattle.frames.specs.Laws.{Operand}

pub kept : (k : Kind) (v w : ℕ) → apply k Keep v ≡ Ok w → w ≡ v
kept k v w h = cc (applied k Keep v w h).2

never : {A : Type 0} → false ≡ true → A
never h = let z : ◌≡◌ {A = ℕ} 0 1 = cc h in absurd (omega arith)

-- the numbers of a plain change of a kind fit the operand bytes of a frame
pub operand : (k : Kind) (e : Change) → of_kind k e ≡ true → plain e ≡ e → Operand e
unfolding of_kind
operand k e h p = by k.letter k.limit e k.proper (ap (fits k.letter k.limit) (sym p) ∙ h)
  where
    amount : (d : ℤ) → nat_abs d ≤ 2000000000 → SFits w32 d
    amount (pos n) h = record { sfits = omega arith }
    amount (negsuc n) h = record { sfits = omega arith }

    by : (l : Letter) (n : ℕ) (e : Change) → proper l n ≡ true → fits l n e ≡ true → Operand e
    by l n Keep p h = tt
    by Amount n (Add d) p h = amount d (omega (arith, leb-true _ _ h, leb-true _ _ p))
    by Choice n (Add d) p h = never h
    by Flags n (Add d) p h = never h
    by Blank n (Add d) p h = never h
    by Amount n (Set w) p h = never h
    by Choice n (Set w) p h = omega (arith, leb-true _ _ h, leb-true _ _ p)
    by Flags n (Set w) p h = never h
    by Blank n (Set w) p h = never h
    by Amount n (Mask m s) p h = never h
    by Choice n (Mask m s) p h = never h
    by Flags n (Mask m s) p h =
        let few = leb-true _ _ (and_parts (leb 1 n) (leb n 65535) (and_parts (leb 1 n && leb n 65535) (eqb (bit_and n (n + 1)) 0) p).0).1 in
        let q = and_parts (leb m n) (eqb (bit_and s m) s) h in
        let low = leb-true m n q.0 in
        (omega (arith, few, low), omega (arith, few, low, and_le_r s m, eqb-true (bit_and s m) s q.1))
    by Blank n (Mask m s) p h = never h

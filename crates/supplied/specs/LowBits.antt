-- The link to the low bits of flags.
use Rattle.std.specs.Prelude.{◌≡◌, ℕ, zero, suc, ◌-◌, ◌%◌, ◌^◌, ◌≤◌, Bool, true, ◌&&◌, refl}
use Rattle.std.proofs.Common.{arith}
use Rattle.std.proofs.lemmas.Bool.Decides.{Decides-below_and}
use Rattle.kinds.specs.declared.kind.Letter.TheVariants.{Flags}
use Rattle.kinds.specs.declared.kind.Kind.{Kind}
use Rattle.kinds.specs.declared.change.Change.{Change}
use Rattle.kinds.specs.declared.change.Change.TheVariants.{Keep, Add, Set, Mask}
use Rattle.kinds.specs.Letters.{proper}
use Rattle.kinds.specs.Changes.{plain}
use Rattle.supplied.specs.declared.low.Low.{Low}
use Rattle.links.specs.Laws.{Lens}
use Rattle.links.specs.Translations.{memoryless}

-- every width from 1 to n makes a limit of flags
abbrev widths_fit : ℕ → Bool
widths_fit zero = true
widths_fit (suc n) = proper Flags (2 ^ suc n - 1) && widths_fit n

-- a width from 1 to 16 makes a limit of flags: one test, computed at each width
pub width_fits : (width : ℕ) → 1 ≤ width → width ≤ 16 → proper Flags (2 ^ width - 1) ≡ true
width_fits zero some small = absurd (omega arith)
width_fits (suc n) some small =
    (Decides-below_and (λ k. proper Flags (2 ^ suc k - 1)) (λ k. proper Flags (2 ^ suc k - 1) ≡ true) widths_fit (λ k. ((λ e. e), (λ e. e))) refl (λ _. refl) 16).0 refl n (omega arith)

-- the widths, of what is kept and of all, for which there is such a link
abbrev pub Narrows : ℕ → ℕ → Type 0
Narrows kept width = (1 ≤ kept) × (kept ≤ width) × (width ≤ 16)

-- the kind of 1 to 16 flags
abbrev pub flags : (width : ℕ) → 1 ≤ width → width ≤ 16 → Kind
flags width some small = record { letter = Flags; limit = 2 ^ width - 1; proper = width_fits width some small }

-- a change of the left flags loses what is above the lowest k bits
abbrev pub lowest : ℕ → Change → Change
lowest k Keep = Keep
lowest k (Add d) = Add d
lowest k (Set w) = Set w
lowest k (Mask m s) = plain (Mask (m % 2 ^ k) (s % 2 ^ k))

-- all flags, on the left
abbrev pub wide : Low → Kind
wide l = flags l.width (omega arith) l.small

-- the low flags, on the right
abbrev pub narrow : Low → Kind
narrow l = flags l.kept l.some (omega arith)

-- y is what is left of x modulo 2 to the number of bits kept; to the left changes pass
abbrev pub low : Lens Low
low = memoryless wide narrow (λ l x y. y ≡ x % 2 ^ l.kept) (λ l. lowest l.kept) (λ l p. p)

-- The link from an amount to its full lots.
use Rattle.std.specs.Prelude.{◌≡◌, ℕ, ◌+◌, ◌-◌, ◌*◌, ◌/◌, ◌%◌, ◌<◌, ◌≤◌, cond, ℤ, pos, negsuc, ◌+ℤ◌, ◌*ℤ◌, nat_le, unsigned_abs}
use Rattle.std.proofs.Common.{arith}
use Rattle.std.proofs.lemmas.Nat.{mod_below, mul-le}
use Rattle.std.proofs.lemmas.Bool.{le-leb}
use Rattle.kinds.specs.declared.kind.Letter.TheVariants.{Amount}
use Rattle.kinds.specs.declared.kind.Kind.{Kind}
use Rattle.kinds.specs.declared.change.Change.{Change}
use Rattle.kinds.specs.declared.change.Change.TheVariants.{Keep, Add, Set, Mask}
use Rattle.kinds.specs.Changes.{plain}
use Rattle.kinds.specs.Kinds.{of_kind}
use Rattle.supplied.specs.declared.carry.Carry.{Carry}
use Rattle.links.specs.declared.refusal.CarryRefusal.TheVariants.{NotOfKind, NoTranslation}
use Rattle.links.specs.Laws.{Carried, sent, refused, Lens}
use Rattle.links.specs.Translations.{translated, Related}

-- the ratios and right limits for which there is such a link
abbrev pub Carries : ℕ → ℕ → Type 0
Carries n m = (1 ≤ n) × (n ≤ 1000000) × (n * (m + 1) - 1 ≤ 2000000000)

-- t / n rounded down
abbrev pub floor : ℤ → ℕ → ℤ
floor (pos a) n = pos (a / n)
floor (negsuc a) n = negsuc (a / n)

-- what is left over: t less n times that
abbrev pub remainder : ℤ → ℕ → ℕ
remainder (pos a) n = a % n
remainder (negsuc a) n = n - 1 - a % n

-- the quotient and the remainder are the only ones: t is n times q and r more, which is less than n
abbrev pub RoundsDown : Type 0
RoundsDown = (t q : ℤ) (n r : ℕ) → r < n → (t ≡ pos n *ℤ q +ℤ pos r → (floor t n ≡ q) × (remainder t n ≡ r)) × (floor t n ≡ q → remainder t n ≡ r → t ≡ pos n *ℤ q +ℤ pos r)

-- what is left over is less than n
pub remainder_below : (t : ℤ) (n : ℕ) → 0 < n → remainder t n < n
remainder_below (pos a) n h = mod_below a n h
remainder_below (negsuc a) n h = omega arith

-- what a change of an amount adds: keep adds 0
abbrev pub added : Change → ℤ
added Keep = pos 0
added (Add d) = d
added (Set w) = pos 0
added (Mask m s) = pos 0

-- the kind of amounts up to a limit
abbrev pub amounts : (limit : ℕ) → limit ≤ 2000000000 → Kind
amounts limit small = record { letter = Amount; limit = limit; proper = le-leb limit 2000000000 small }

-- the left limit is a limit of amounts
pub many_small : (c : Carry) → c.ratio * (c.limit + 1) - 1 ≤ 2000000000
many_small c = omega arith

-- and so is the right limit
pub lots_small : (c : Carry) → c.limit ≤ 2000000000
lots_small c = omega (arith, mul-le 1 (c.limit + 1) c.ratio (c.limit + 1) (omega arith) (omega arith))

-- the kind of the amount, on the left
abbrev pub many : Carry → Kind
many c = amounts (c.ratio * (c.limit + 1) - 1) (many_small c)

-- the kind of the number of lots, on the right
abbrev pub lots : Carry → Kind
lots c = amounts c.limit (lots_small c)

-- the same build with another memory
abbrev pub with_rest : (c : Carry) (r : ℕ) → r < c.ratio → Carry
with_rest c r below = record { ratio = c.ratio; limit = c.limit; rest = r; positive = c.positive; small = c.small; below = below }

-- the sum t of memory and amount, split into lots to add and what is left over
abbrev pub split_up : Carry → ℤ → Carried Carry
split_up c t =
    cond (nat_le (unsigned_abs (floor t c.ratio)) c.limit)
    (sent (plain (Add (floor t c.ratio))) (with_rest c (remainder t c.ratio) (remainder_below t c.ratio c.positive)))
    (refused NoTranslation)

-- y is the number of full lots in x, and the memory what is left over
abbrev pub carrying : Lens Carry
carrying = record {
  left = many;
  right = lots;
  fresh = λ c. with_rest c 0 c.positive;
  agrees = λ c. Related (many c) (lots c) (λ x y. x ≡ c.ratio * y + c.rest);
  rightward = λ c e. cond (of_kind (many c) e) (split_up c (pos c.rest +ℤ added (plain e))) (refused NotOfKind);
  leftward = λ c. translated (lots c) (λ p. plain (Add (pos c.ratio *ℤ added p))) c;
}

-- Kinds of values, which changes are of a kind, what they do to its values, and the one change in the place of two.
use Rattle.std.specs.Prelude.{◌≡◌, ℕ, Bool, true, false, cond, ◌&&◌, ℤ, pos, negsuc, ◌+ℤ◌, Some, None, Ok, Err, Option, Result, ◌==◌, bit_and, bit_or, bit_xor, nat_le, unsigned_abs, refl}
use Rattle.kinds.specs.declared.kind.Letter.{Letter}
use Rattle.kinds.specs.declared.kind.Letter.TheVariants.{Amount, Choice, Flags, Blank}
use Rattle.kinds.specs.declared.kind.Kind.{Kind}
use Rattle.kinds.specs.declared.change.Change.{Change}
use Rattle.kinds.specs.declared.change.Change.TheVariants.{Keep, Add, Set, Mask}
use Rattle.kinds.specs.declared.refusal.Refusal.{Refusal}
use Rattle.kinds.specs.declared.refusal.Refusal.TheVariants.{NotOfKind, DoesNotApply, NoSuchKind}
use Rattle.kinds.specs.Answers.{◌>>=◌, test, need}
use Rattle.kinds.specs.Changes.{plain}
use Rattle.kinds.specs.Letters.{proper}

-- the kind whose only value is 0
abbrev pub blank : Kind
blank = record { letter = Blank; limit = 0; proper = refl }

-- the kind with a letter and a limit, or a refusal, by what the test of the limit answers
abbrev pub tested : (letter : Letter) (limit : ℕ) (answer : Bool) → proper letter limit ≡ answer → Result Kind Refusal
tested letter limit true passed = Ok (record { letter = letter; limit = limit; proper = passed })
tested letter limit false failed = Err NoSuchKind

-- the kind with a letter and a limit, where the letter allows the limit
unfoldable pub new_kind : Letter → ℕ → Result Kind Refusal
new_kind letter limit = tested letter limit (proper letter limit) refl

-- the place of a letter among the letters
abbrev pub place : Letter → ℕ
place Amount = 0
place Choice = 1
place Flags = 2
place Blank = 3

-- two kinds have the same letter and the same limit
unfoldable pub same_kind : Kind → Kind → Bool
same_kind k l = place k.letter == place l.letter && k.limit == l.limit

-- the bits of v outside the mask
abbrev pub without : ℕ → ℕ → ℕ
without v mask = bit_xor v (bit_and v mask)

-- a plain change of a letter's kind with this limit
abbrev pub fits : Letter → ℕ → Change → Bool
fits letter limit Keep = true
fits Amount limit (Add d) = nat_le (unsigned_abs d) limit
fits Choice limit (Add d) = false
fits Flags limit (Add d) = false
fits Blank limit (Add d) = false
fits Amount limit (Set w) = false
fits Choice limit (Set w) = nat_le w limit
fits Flags limit (Set w) = false
fits Blank limit (Set w) = false
fits Amount limit (Mask m s) = false
fits Choice limit (Mask m s) = false
fits Flags limit (Mask m s) = nat_le m limit && bit_and s m == s
fits Blank limit (Mask m s) = false

-- a change is of the kind if its plain form is
unfoldable pub of_kind : Kind → Change → Bool
of_kind k e = fits k.letter k.limit (plain e)

-- a sum, where it lies within 0 to the limit
abbrev pub within : ℕ → ℤ → Option ℕ
within limit (pos v) = cond (nat_le v limit) (Some v) None
within limit (negsuc v) = None

-- what a plain change of the kind makes of a value
abbrev pub after : ℕ → Change → ℕ → Option ℕ
after limit Keep v = Some v
after limit (Add d) v = within limit (pos v +ℤ d)
after limit (Set w) v = Some w
after limit (Mask m s) v = Some (bit_or (without v m) s)

-- what a change makes of a value, its tests in order
unfoldable pub apply : Kind → Change → ℕ → Result ℕ Refusal
apply k e v = do
  _ ← test (of_kind k e) NotOfKind
  _ ← test (nat_le v k.limit) DoesNotApply
  need (after k.limit (plain e) v) DoesNotApply

-- the one change in the place of two plain ones, where there is one; of two amounts there is none if their sum passes the limit
abbrev pub folded : ℕ → Change → Change → Option Change
folded limit Keep f = Some f
folded limit (Add d) Keep = Some (Add d)
folded limit (Add d) (Add e) = cond (nat_le (unsigned_abs (d +ℤ e)) limit) (Some (plain (Add (d +ℤ e)))) None
folded limit (Add d) (Set w) = None
folded limit (Add d) (Mask m s) = None
folded limit (Set w) Keep = Some (Set w)
folded limit (Set w) (Add d) = None
folded limit (Set w) (Set v) = Some (Set v)
folded limit (Set w) (Mask m s) = None
folded limit (Mask m s) Keep = Some (Mask m s)
folded limit (Mask m s) (Add d) = None
folded limit (Mask m s) (Set w) = None
folded limit (Mask m s) (Mask n t) = Some (plain (Mask (bit_or m n) (bit_or (without s n) t)))

-- the fold of two changes of the kind
unfoldable pub fold : Kind → Change → Change → Result (Option Change) Refusal
fold k e f = do
  _ ← test (of_kind k e && of_kind k f) NotOfKind
  Ok (folded k.limit (plain e) (plain f))

-- A log line: skipped, or pairs of hexadecimal digits, one pair a byte.
use Rattle.std.specs.Prelude.{◌≡◌, ℕ, ◌+◌, ◌-◌, ◌*◌, ◌/◌, ◌%◌, ◌<◌, ◌≤◌, Bool, true, false, cond, ◌&&◌, ◌↔◌, List, [], ◌∷◌, ◌++◌, length, take, drop, is_some, IsErrAnd, Some, None, Ok, Err, Option, Result, ◌==◌, nat_le, nat_lt}
use Rattle.kinds.specs.Answers.{◌>>=◌, test, need}
use Rattle.frames.specs.declared.refusal.LineRefusal.{LineRefusal}
use Rattle.frames.specs.declared.refusal.LineRefusal.TheVariants.{TooLong, NotHexadecimal, ShortBuffer}
use Rattle.frames.specs.Refusals.{line_number}

-- the value of a digit, 0 to 9 and A to F
abbrev pub digit : ℕ → Option ℕ
digit c = cond (nat_le 48 c && nat_le c 57) (Some (c - 48)) (cond (nat_le 65 c && nat_le c 70) (Some (c - 55)) None)

-- the byte that two digits spell
abbrev pub byte : Option ℕ → Option ℕ → Option ℕ
byte None low = None
byte (Some h) None = None
byte (Some h) (Some l) = Some (h * 16 + l)

-- a byte before bytes
abbrev pub joined : Option ℕ → Option (List ℕ) → Option (List ℕ)
joined None bs = None
joined (Some b) None = None
joined (Some b) (Some bs) = Some (b ∷ bs)

-- the bytes that characters spell: each is a digit, and their count is even
abbrev pub bytes_of : List ℕ → Option (List ℕ)
bytes_of [] = Some []
bytes_of (c ∷ []) = None
bytes_of (c ∷ d ∷ cs) = joined (byte (digit c) (digit d)) (bytes_of cs)

-- a line that is skipped: empty, or begun by a semicolon
abbrev pub is_skipped : List ℕ → Bool
is_skipped [] = true
is_skipped (c ∷ cs) = c == 59

-- A line's bytes, none if it is skipped, where the buffer has this room: the tests in their order.
abbrev pub line_bytes : List ℕ → ℕ → Result (Option (List ℕ)) LineRefusal
line_bytes line room = do
  _ ← test (nat_le (length line) 80) TooLong
  cond (is_skipped line) (Ok None) (do
    bs ← need (bytes_of line) NotHexadecimal
    _ ← test (nat_le 64 room) ShortBuffer
    Ok (Some bs))

-- the answer to a line: the count of its bytes, none if it is skipped
abbrev pub answer : Result (Option (List ℕ)) LineRefusal → Result (Option ℕ) LineRefusal
answer (Ok None) = Ok None
answer (Ok (Some bs)) = Ok (Some (length bs))
answer (Err e) = Err e

-- the buffer then: the bytes at its front, and the rest as it was
abbrev pub written : Result (Option (List ℕ)) LineRefusal → List ℕ → List ℕ
written (Ok None) buffer = buffer
written (Ok (Some bs)) buffer = bs ++ drop (length bs) buffer
written (Err e) buffer = buffer

-- the digit of a number below 16
abbrev pub character : ℕ → ℕ
character n = cond (nat_lt n 10) (48 + n) (55 + n)

-- the digits that spell bytes
abbrev pub characters : List ℕ → List ℕ
characters [] = []
characters (b ∷ bs) = character (b / 16) ∷ character (b % 16) ∷ characters bs

-- The line can be got back from its bytes, and no other line gives them.
pub record Spells (line bytes : List ℕ) : Type 0 where
  pub back : characters bytes ≡ line
  pub only : (other : List ℕ) → bytes_of other ≡ Some bytes → other ≡ line

-- What a line that gives bytes leaves at the buffer's front spells the line.
abbrev pub Spelled : List ℕ → List ℕ → Result (Option ℕ) LineRefusal → Type 0
Spelled line buffer (Ok None) = Unit {0}
Spelled line buffer (Ok (Some count)) = Spells line (take count buffer)
Spelled line buffer (Err e) = Unit {0}

-- A line gives at most 40 bytes.
abbrev pub Few : Result (Option ℕ) LineRefusal → Type 0
Few (Ok None) = Unit {0}
Few (Ok (Some count)) = count ≤ 40
Few (Err e) = Unit {0}

-- the answer is a refusal with this number
abbrev pub Refused : ℕ → Result (Option ℕ) LineRefusal → Type 0
Refused n r = IsErrAnd r (λ e. line_number e ≡ n)

-- Which lines are refused, with which number, where the buffer has this room.
pub record Refusals (line : List ℕ) (room : ℕ) (r : Result (Option ℕ) LineRefusal) : Type 0 where
  pub too_long : Refused 2 r ↔ (80 < length line)
  pub not_digits : Refused 3 r ↔ ((length line ≤ 80) × (is_skipped line ≡ false) × (is_some (bytes_of line) ≡ false))
  pub short_buffer : Refused 12 r ↔ ((length line ≤ 80) × (is_skipped line ≡ false) × (is_some (bytes_of line) ≡ true) × (room < 64))

-- Tests tried in order: an answer, or the first refusal.
use Rattle.std.specs.Prelude.{Bool, true, false, Some, None, Ok, Err, Option, Result}

infixl 10 ◌>>=◌
-- goes on with the answer; a refusal ends it
abbrev pub ◌>>=◌ : {X Y E : Type 0} → Result X E → (X → Result Y E) → Result Y E
◌>>=◌ (Ok x) next = next x
◌>>=◌ (Err e) next = Err e

-- refuses unless the test holds
abbrev pub test : {E : Type 0} → Bool → E → Result (Unit {0}) E
test true e = Ok tt
test false e = Err e

-- refuses unless there is a value
abbrev pub need : {X E : Type 0} → Option X → E → Result X E
need None e = Err e
need (Some x) e = Ok x

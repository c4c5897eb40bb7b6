-- What an answer shows of the tests before it.
use Rattle.std.proofs.Common.{◌≡◌, ℕ, Bool, true, false, Some, None, Ok, Err, Option, Result, refl, ap, arith}
use Rattle.kinds.specs.Answers.{◌>>=◌, test, need}
use Rattle.kinds.specs.declared.refusal.Refusal.{Refusal}
use Rattle.kinds.specs.declared.side.Side.{Side}
use Rattle.frames.specs.declared.refusal.FrameRefusal.{FrameRefusal}
use Rattle.frames.specs.Edits.{Edit}
use Rattle.documents.specs.Attempts.{kind_answer, read}

pub never_ok : {X E : Type 0} (f : E) (x : X) → ◌≡◌ {A = Result X E} (Err f) (Ok x) → ⊥
never_ok f x e = let z : ◌≡◌ {A = ℕ} 0 1 = cc e in omega arith

pub bind_ok : {X Y E : Type 0} (a : Result X E) (k : X → Result Y E) (y : Y) → (a >>= k) ≡ Ok y → (x : X) × (a ≡ Ok x) × (k x ≡ Ok y)
bind_ok (Ok x) k y e = (x, refl, e)
bind_ok (Err f) k y e = absurd (never_ok f y e)

pub need_ok : {X E : Type 0} (o : Option X) (f : E) (x : X) → need o f ≡ Ok x → o ≡ Some x
need_ok None f x e = absurd (never_ok f x e)
need_ok (Some y) f x e = cc e

pub test_ok : {E : Type 0} (b : Bool) (f : E) (u : Unit {0}) → test b f ≡ Ok u → b ≡ true
test_ok true f u e = refl
test_ok false f u e = absurd (never_ok f u e)

pub kind_ok : {X : Type 0} (p c : ℕ) (r : Result X Refusal) (x : X) → kind_answer p c r ≡ Ok x → r ≡ Ok x
kind_ok p c (Ok y) x e = cc e
kind_ok p c (Err n) x e = absurd (never_ok _ x e)

pub read_ok : (r : Result (Side × Edit) FrameRefusal) (f : Side × Edit) → read r ≡ Ok f → r ≡ Ok f
read_ok (Ok g) f e = cc e
read_ok (Err n) f e = absurd (never_ok _ f e)

pub same_ok : {A B E : Type 0} (o : Result (A × B) E) (t u : A) (d e : B) → o ≡ Ok (t, d) → o ≡ Ok (u, e) → (t ≡ u) × (d ≡ e)
same_ok {A} {B} o t u d e p q = let r : ◌≡◌ {A = A × B} (t, d) (u, e) = cc (p, q) in (ap (λ z. z.0) r, ap (λ z. z.1) r)

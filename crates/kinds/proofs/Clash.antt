-- What follows where two constructors would be equal: `clash (cc h)`.
use Rattle.std.proofs.Common.{◌≡◌, ℕ, arith}

pub clash : {P : Type 0} → ◌≡◌ {A = ℕ} 0 1 → P
clash h = absurd (omega arith)

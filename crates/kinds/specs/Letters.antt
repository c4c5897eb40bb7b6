-- The limits that each letter of a kind allows.
use Rattle.std.specs.Prelude.{ℕ, ◌+◌, Bool, ◌&&◌, ◌==◌, bit_and, nat_le}
use Rattle.kinds.specs.declared.kind.Letter.{Letter}
use Rattle.kinds.specs.declared.kind.Letter.TheVariants.{Amount, Choice, Flags, Blank}

-- n is one less than 2, 4, 8, .. or 65,536: from 1 to 65,535, with no bit in common with n + 1
abbrev pub all_ones : ℕ → Bool
all_ones n = (nat_le 1 n && nat_le n 65535) && bit_and n (n + 1) == 0

-- the limits of each letter
abbrev pub proper : Letter → ℕ → Bool
proper Amount limit = nat_le limit 2000000000
proper Choice limit = nat_le limit 65535
proper Flags limit = all_ones limit
proper Blank limit = limit == 0

-- Changes that mean the same.
use Rattle.std.specs.Prelude.{zero, suc, cond, ◌&&◌, ℤ, pos, negsuc, ◌==◌}
use Rattle.kinds.specs.declared.change.Change.{Change}
use Rattle.kinds.specs.declared.change.Change.TheVariants.{Keep, Add, Set, Mask}

-- to add 0 is to keep
abbrev pub plain_add : ℤ → Change
plain_add (pos zero) = Keep
plain_add (pos (suc n)) = Add (pos (suc n))
plain_add (negsuc n) = Add (negsuc n)

-- a change in its plain form: adding 0, and an empty mask without bits, are keep
abbrev pub plain : Change → Change
plain Keep = Keep
plain (Add d) = plain_add d
plain (Set w) = Set w
plain (Mask m s) = cond (m == 0 && s == 0) Keep (Mask m s)

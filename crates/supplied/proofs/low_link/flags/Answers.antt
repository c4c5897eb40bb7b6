use Rattle.std.proofs.Common.{◌-◌, ap, ◌∙◌, arith}
use Rattle.std.proofs.lemmas.Nat.{one_shl}
use Rattle.kinds.specs.Letters.{all_ones}
use Rattle.supplied.specs.LowBits.{width_fits}
use Rattle.supplied.proofs.low_link.flags.Goals as goal

pub invariant_of-result : goal.invariant_of-result
invariant_of-result c = record { proper = ap (λ n. all_ones (n - 1)) (one_shl c.args.width 32 (omega (arith, c.requires.few))) ∙ width_fits c.args.width c.requires.some c.requires.few }

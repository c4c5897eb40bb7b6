use Rattle.std.proofs.Common.{refl}
use Rattle.kinds.proofs.Folding.{folds_act, stays_within, folds_associate, absent_too_far, folds_plain, keep_folds_away, keeps}
use Rattle.kinds.proofs.Masks.{flags_ones}
use Rattle.kinds.proofs.Same.{decides_same}
use Rattle.kinds.proofs.laws.laws_of_kinds.Goals as goal

pub returns : goal.returns
returns c = record {
  ones = flags_ones;
  same = decides_same;
  act = folds_act;
  within = stays_within;
  associate = folds_associate;
  absent = absent_too_far;
  plain = folds_plain;
  away = keep_folds_away;
  keep = keeps _ refl;
  zero = keeps _ refl;
  empty = keeps _ refl;
}

use Rattle.std.proofs.Common.{refl}
use Rattle.std.specs.Int.{reverse_bits_onto}
use Rattle.kinds.specs.Kinds.{new_kind, of_kind, apply, fold}
use Rattle.trials.proofs.worked.worked_cases.Goals as goal

pub returns : goal.returns
unfolding new_kind of_kind apply fold reverse_bits_onto
returns c = record {
  six_more = refl;
  seven_more = refl;
  there_and_back = refl;
  under_a_mask = refl;
  lot_filled = λ below. (refl, refl);
  lot_broken = λ below. (refl, refl);
  too_many_lots = λ below. (refl, refl);
  label_reversed = refl;
  edits = record {
    last_deleted = refl;
    past_a_remark = refl;
    before_the_last = refl;
    at_the_end = refl;
    to_the_end = refl;
    to_itself = refl;
  };
}

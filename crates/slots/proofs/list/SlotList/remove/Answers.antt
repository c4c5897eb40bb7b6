use Rattle.std.proofs.Common.{◌+◌, ◌-◌, sym, refl, ◌∙◌, arith}
use Rattle.std.specs.List.{ContainsAt}
use Rattle.std.proofs.lemmas.List.{get_or_default, get_or-take}
use Rattle.std.proofs.ByRecursion.{all_has_itself}
use Rattle.slots.proofs.Shifts.{removes, all_copied}
use Rattle.slots.proofs.list.SlotList.remove.Goals as goal

pub returns : goal.returns
returns g c =
    let xs = c.args.self.now.slots.now in
    let n = c.len-len.result in
    let at = c.args.at in (
      omega arith,
      simp c.len-len.ensures.front (get_or_default xs at _ _ (omega arith) ∙ sym (get_or-take n xs at _ (omega arith))),
      record {
        items_are = simp (c.len-len.ensures.front, c.copy_within.ensures.after) (removes xs n at (omega arith) (omega arith));
        same_room = c.copy_within.ensures.len;
        same_lender = refl;
        slots_among = simp c.copy_within.ensures.after (all_copied (ContainsAt xs) xs at (at + 1) (n - (at + 1)) (all_has_itself xs));
      },
    )

use Rattle.std.proofs.Common.{◌+◌, ◌-◌, ◌∷◌, refl, arith, rules}
use Rattle.std.specs.List.{ContainsAt}
use Rattle.std.proofs.lemmas.List.{places}
use Rattle.std.proofs.ByRecursion.{All-set, all_has_itself}
use Rattle.slots.proofs.Shifts.{inserts, all_copied}
use Rattle.slots.proofs.list.SlotList.insert.Goals as goal

pub returns : goal.returns
returns g c =
    let xs = c.args.self.now.slots.now in
    let n = c.len-len.result in
    let x = c.args.item in
    let has = all_has_itself (x ∷ xs) in (
      omega arith,
      omega arith,
      record {
        items_are = simp (c.len-len.ensures.front, c.copy_within.ensures.after) (inserts xs n c.args.at x (omega arith) (omega arith));
        same_room = search (rules, places);
        same_lender = refl;
        slots_among = simp c.copy_within.ensures.after (All-set (ContainsAt (x ∷ xs)) _ c.args.at x has.0 (all_copied _ xs (c.args.at + 1) c.args.at (n - c.args.at) has.1));
      },
    )

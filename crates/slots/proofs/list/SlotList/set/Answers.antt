use Rattle.std.proofs.Common.{◌∷◌, refl, arith, length-set, length-take}
use lib.Seq.{take-set-lt}
use Rattle.std.specs.List.{ContainsAt}
use Rattle.std.proofs.ByRecursion.{All-set, all_has_itself}
use Rattle.slots.proofs.list.SlotList.set.Goals as goal

pub returns : goal.returns
returns g c =
    let s = c.args.self.now in
    let xs = s.slots.now in
    let x = c.args.item in
    let has = all_has_itself (x ∷ xs) in (
      omega arith,
      record {
        items_are = take-set-lt s.len xs c.args.at x (omega (arith, length-take s.len xs));
        same_room = length-set xs c.args.at x;
        same_lender = refl {a = s.slots.ghost_name};
        slots_among = All-set (ContainsAt (x ∷ xs)) xs c.args.at x has.0 has.1;
      },
    )

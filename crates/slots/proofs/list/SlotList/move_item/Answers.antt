use Rattle.std.proofs.Common.{◌≡◌, ℕ, ◌+◌, ◌-◌, ◌<◌, ◌≤◌, length, get_or, drop, set, sym, refl, ap, ◌∙◌, subst, arith, rules}
use lib.Seq.{paste}
use Rattle.std.specs.List.{ContainsAt}
use Rattle.std.proofs.lemmas.List.{places}
use Rattle.std.proofs.ByRecursion.{All-set, All-get_or, all_has_itself}
use Rattle.slots.specs.declared.list.SlotList.{SlotList}
use Rattle.slots.specs.Slots.{table, items, room, moved, Among, Edited}
use Rattle.slots.proofs.Shifts.{all_copied, moves_up, moves_down}
use Rattle.slots.proofs.list.SlotList.move_item.Goals as goal
use Rattle.slots.proofs.list.SlotList.move_item.Goals.{then-from-to, else-from-to}

-- a part of the table is copied, and the item that was at `from` is written at `to`
edited : {X : Type 0} (s t : SlotList X) (from to a b m : ℕ) (d : X) → a + m ≤ room s → b + m ≤ room s → from < room s
    → table t ≡ set (paste (table s) a (drop b (table s)) m) to (get_or (table s) from d) → t.slots.ghost_name ≡ s.slots.ghost_name → items t ≡ moved (items s) from to
    → Edited s (moved (items s) from to) (table s) t
edited s t from to a b m d la lb lf slots lender is =
    let xs = table s in
    let all = all_has_itself xs in
    record {
      items_are = is;
      same_room = ap length slots ∙ search (rules, places);
      same_lender = lender;
      slots_among = subst (Among xs) (sym slots) (All-set (ContainsAt xs) _ to _ (All-get_or (ContainsAt xs) xs from d lf all) (all_copied (ContainsAt xs) xs a b m all));
    }

pub returns : goal.returns
returns g c =
    let s = c.args.self.now in
    let xs = s.slots.now in
    let from = c.args.from in
    let to = c.args.to in
    let d = c.index-self-from.result in (
      omega arith,
      omega arith,
      elim c.if-from-to.branch [
        | then-from-to w ↦
            simp (w.self-is, w.copy_within.ensures.after)
            (edited s _ from to from (from + 1) (to + 1 - (from + 1)) d (omega arith) (omega arith) (omega arith) refl refl (moves_up xs s.len from to d (omega arith) (omega arith)))
        | else-from-to w ↦
            simp (w.self-is, w.copy_within-else-from-to.ensures.after)
            (edited s _ from to (to + 1) to (from - to) d (omega arith) (omega arith) (omega arith) refl refl (moves_down xs s.len from to d (omega arith) (omega arith)))
      ],
    )

use Rattle.std.proofs.Common.{◌≡◌, ℕ, ◌+◌, ◌<◌, true, List, sym, refl, ap, ◌∙◌, arith}
use Rattle.std.specs.List.{remove}
use Rattle.documents.specs.Documents.{Line, item, records_before}
use Rattle.documents.specs.Across.{is_record}
use Rattle.documents.proofs.Finding.{before_removed, before_removed_past, before_removed_below}
use Rattle.pair.specs.State.{state}
use Rattle.pair.proofs.pair.Pair.end_at_line.Goals as goal

-- past the record that is line p there is one record less once it is gone
one_less : (ls : List Line) (p q n m : ℕ) → is_record (item ls p) ≡ true → p < q → n ≡ q + 1 → m ≡ records_before n ls → records_before q (remove ls p) + 1 ≡ m
one_less ls p q n m h lt i e = before_removed_past ls p q h (omega arith) ∙ ap (λ k. records_before k ls) (sym i) ∙ sym e

pub returns-then-q-from : goal.returns-then-q-from
returns-then-q-from g c =
    let s = c.args.self.now in
    let e = c.records_before-number.ensures.value ∙ sym (before_removed (state s).lines c.args.from.line c.args.q c.requires.stands.line (omega arith)) in
    record {
      ends = record { within = c.requires.target; number = e };
      line = refl;
      below = omega (arith, e, before_removed_below (state s).lines c.args.from.line c.args.q c.requires.stands.line, s.counted);
    }

pub overflow_sub-number : goal.overflow_sub-number
overflow_sub-number g c =
    omega (arith, one_less (state c.args.self.now).lines c.args.from.line c.args.q c.min.result c.records_before.result c.requires.stands.line (omega arith) (omega arith) c.records_before.ensures.value)

pub returns-else-q-from : goal.returns-else-q-from
returns-else-q-from g c =
    let s = c.args.self.now in
    let h = one_less (state s).lines c.args.from.line c.args.q c.min.result c.records_before.result c.requires.stands.line (omega arith) (omega arith) c.records_before.ensures.value in
    record {
      ends = record { within = c.requires.target; number = omega (arith, h) };
      line = refl;
      below = omega (arith, h, before_removed_below (state s).lines c.args.from.line c.args.q c.requires.stands.line, s.counted);
    }

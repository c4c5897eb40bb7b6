use Rattle.std.proofs.Common.{◌≡◌, Bool, length, filter, take, Some, ◌∙◌, arith, rules, tests}
use Rattle.std.proofs.lemmas.Iterator.{YieldsList-from_slice, YieldsList-from_take}
use Rattle.std.proofs.lemmas.Iterator.Consumers.{YieldsList-from_filter, count_from_yields_List}
use Rattle.slots.specs.Slots.{items}
use Rattle.documents.specs.Documents.{line}
use Rattle.documents.specs.Across.{is_record}
use Rattle.documents.proofs.Places.{before_within}
use Rattle.documents.proofs.Finding.{before_counted}
use Rattle.documents.specs.declared.line.Line.{Line as StoredLine}
use Rattle.pair.specs.Written.{written}
use Rattle.pair.proofs.Kept.{number_below}
use Rattle.pair.proofs.pair.Pair.records_before.Goals as goal

pub returns : goal.returns
returns g c =
    let s = c.args.self.now in
    let is : StoredLine → Bool = λ l. is_record (Some (line l)) in
    let counted : c.count.result ≡ length (filter is (take c.args.p (items s.lines))) =
    count_from_yields_List _ _ c.count.ensures.ran
    (YieldsList-from_filter _ is (YieldsList-from_take c.args.p (YieldsList-from_slice (items s.lines) cc) cc) c.filter.ensures.closure (λ x b q k. search (rules, tests))) in
    let e = counted ∙ before_counted (items s.lines) c.args.p in
    record {
      value = e;
      within = omega (arith, e, before_within (written (items s.lines)) c.args.p, s.counted);
      below = λ h. number_below s (record { line = c.args.p; number = c.count.result }) (record { line = h; number = e });
    }

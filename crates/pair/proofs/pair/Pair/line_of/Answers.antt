use Rattle.std.proofs.Common.{◌≡◌, ◌<◌, true, length, sym, ap, ◌∙◌, arith, rules}
use Rattle.std.proofs.lemmas.List.{drop_all}
use lib.ListN.{length-map}
use Rattle.slots.specs.Slots.{items}
use Rattle.documents.specs.Documents.{line, line_of, item}
use Rattle.documents.specs.Across.{is_record}
use Rattle.documents.proofs.Finding.{line_here, line_past, line_over, line_of_is, record_got}
use Rattle.pair.specs.Written.{written}
use Rattle.pair.proofs.pair.Pair.line_of.Goals as goal
use Rattle.pair.proofs.pair.Pair.line_of.Goals.{then-is_record+else-left-eq0, else-is_record}

pub returns-then-left-eq0 : goal.returns-then-left-eq0
returns-then-left-eq0 g c =
    let s = c.args.self.now in
    let i = c.loop-i.i in
    let is : is_record (item (written c.as_slice-lines.result.now) i) ≡ true = record_got _ i _ (omega arith) ∙ sym c.is_record.ensures ∙ c.if-is_record.true in
    let h : i ≡ line_of c.args.j (written c.as_slice-lines.result.now) = search (rules, line_here) in
    let r = line_of_is (written (items s.lines)) (length (items s.records)) c.args.j i s.counted (h ∙ ap (λ xs. line_of c.args.j (written xs)) c.as_slice-lines.ensures) in
    record { value = r.value; place = r.place; within = r.within; number = r.number; found = r.found }

pub loop-i-preserved : goal.loop-i-preserved
loop-i-preserved g c =
    let ls = written c.as_slice-lines.result.now in
    let i = c.loop-i.i in
    let lt : i < length ls = omega (arith, length-map c.as_slice-lines.result.now line) in
    let is : is_record (item ls i) ≡ c.is_record.result = record_got _ i _ (omega arith) ∙ sym c.is_record.ensures in
    elim c.if-is_record.branch [
      | then-is_record+else-left-eq0 w ↦ rw w.left-is (omega (arith, line_past ls i c.loop-i.left (is ∙ w.if-is_record.true) (omega arith)))
      | else-is_record w ↦ rw w.left-is (omega (arith, line_over ls i c.loop-i.left lt (is ∙ w.if-is_record.false)))
    ]

pub returns : goal.returns
returns g c =
    let s = c.args.self.now in
    let xs = c.as_slice-lines.result.now in
    let e : line_of c.loop-i.left _ ≡ 0 = ap (line_of c.loop-i.left) (drop_all c.loop-i.i (written xs) (omega (arith, length-map xs line))) in
    let h : length xs ≡ line_of c.args.j (written xs) = omega arith in
    let r = line_of_is (written (items s.lines)) (length (items s.records)) c.args.j (length xs) s.counted (h ∙ ap (λ xs. line_of c.args.j (written xs)) c.as_slice-lines.ensures) in
    record { value = r.value; place = r.place; within = r.within; number = r.number; found = r.found }

use Rattle.std.proofs.Common.{◌≤◌, length, sym, ap, arith}
use Rattle.frames.proofs.Readings as readings
use Rattle.frames.specs.Lines.{answer, written}
use Rattle.frames.proofs.line.read_line.Goals as goal

pub returns-then-not-spells_bytes-clause-answers : goal.returns-then-not-spells_bytes-clause-answers
returns-then-not-spells_bytes-clause-answers c =
    sym (ap answer (readings.misspelled c.args.line.now _ (omega arith) (sym c.if-is_skipped.ensures) (sym c.if-not-spells_bytes.ensures)))

pub returns-then-not-spells_bytes-clause-writes : goal.returns-then-not-spells_bytes-clause-writes
returns-then-not-spells_bytes-clause-writes c =
    let buffer = c.args.buffer.now in
    sym (ap (λ o. written o buffer) (readings.misspelled c.args.line.now (length buffer) (omega arith) (sym c.if-is_skipped.ensures) (sym c.if-not-spells_bytes.ensures)))

pub returns-then-buffer-lt-SHORTEST_BUFFER-clause-answers : goal.returns-then-buffer-lt-SHORTEST_BUFFER-clause-answers
returns-then-buffer-lt-SHORTEST_BUFFER-clause-answers c =
    sym (ap answer (readings.unroomed c.args.line.now _ (omega arith) (sym c.if-is_skipped.ensures) (sym c.if-not-spells_bytes.ensures) (omega arith)))

pub returns-then-buffer-lt-SHORTEST_BUFFER-clause-writes : goal.returns-then-buffer-lt-SHORTEST_BUFFER-clause-writes
returns-then-buffer-lt-SHORTEST_BUFFER-clause-writes c =
    let buffer = c.args.buffer.now in
    sym (ap (λ o. written o buffer) (readings.unroomed c.args.line.now (length buffer) (omega arith) (sym c.if-is_skipped.ensures) (sym c.if-not-spells_bytes.ensures) (omega arith)))

pub returns : goal.returns
returns c =
    let line = c.args.line.now in
    let buffer = c.args.buffer.now in
    let short : length line ≤ 80 = omega arith in
    let kept = sym c.if-is_skipped.ensures in
    let digits = sym c.if-not-spells_bytes.ensures in
    let room : 64 ≤ length buffer = omega arith in
    let wrote = c.write_bytes.ensures _ (readings.spells line buffer short kept digits room) in
    record {
      answers = readings.answers line buffer short kept digits room _ wrote.0;
      writes = readings.writes line buffer short kept digits room _ wrote.1;
      refusals = readings.refusals line buffer short kept digits room _;
      few = readings.few line buffer short kept digits room _ wrote.0;
      spelled = readings.spelled line buffer short kept digits room _ _ wrote.0 wrote.1;
    }

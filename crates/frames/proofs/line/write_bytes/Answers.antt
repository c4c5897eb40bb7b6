use Rattle.std.proofs.Common.{◌≡◌, ◌+◌, ◌*◌, ◌++◌, map, length, take, drop, set, sym, ap, ◌∙◌, arith}
use Rattle.std.proofs.lemmas.List.{take_all, length-map, get_or-map}
use Rattle.frames.proofs.Digits.{byte_of, chunked, spelt_is, one_more}
use Rattle.frames.proofs.line.write_bytes.Goals as goal

pub loop-at-preserved : goal.loop-at-preserved
loop-at-preserved c =
    let chunks = c.as_chunks.result.0.now in
    let bytes = map byte_of chunks in
    let at = c.loop-at.at in
    ap (λ b. set b at (c.value.result * 16 + c.value-in-loop-at.result)) c.loop-at.invariant
    ∙ one_more bytes c.args.buffer.now at _ (omega (arith, length-map chunks byte_of, c.loop-at-test.true)) (omega arith)
    ((λ k. c.value.ensures.same k * 16 + c.value-in-loop-at.ensures.same k) ∙ sym (get_or-map byte_of chunks at _ 0 c.loop-at-test.true))

pub returns : goal.returns
returns c bytes spells =
    let line = c.args.line.now in
    let chunks = c.as_chunks.result.0.now in
    let is : map byte_of chunks ≡ bytes = ap (map byte_of) c.as_chunks.ensures.front ∙ chunked line ∙ sym (spelt_is line bytes spells) in
    let count : length chunks ≡ length bytes = sym (length-map chunks byte_of) ∙ ap length is in
    let end : c.loop-at.at ≡ length bytes = omega (arith, count) in
    let front : take c.loop-at.at (map byte_of chunks) ≡ bytes = take_all c.loop-at.at (map byte_of chunks) (omega (arith, ap length is)) ∙ is in
    (count, c.loop-at.invariant ∙ (λ k. front k ++ drop (end k) c.args.buffer.now))

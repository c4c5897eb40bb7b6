use Rattle.std.proofs.Common.{is_some, ◌&&◌, sym, ap, ◌∙◌, rules}
use borrow.Author.Tests.{tests}
use Rattle.std.proofs.lemmas.Bool.{eq-eqb, ne_eqb}
use Rattle.std.proofs.lemmas.Iterator.{YieldsList-from_slice}
use Rattle.std.proofs.lemmas.Iterator.Search.{all_from_yields_List}
use Rattle.std.specs.List.{list_all}
use Rattle.frames.specs.Lines.{digit}
use Rattle.frames.proofs.Digits.{digits_spell}
use Rattle.frames.proofs.line.spells_bytes.Goals as goal

pub returns-then-line-eq0 : goal.returns-then-line-eq0
returns-then-line-eq0 c =
    let line = c.args.line.now in
    all_from_yields_List (λ d. is_some (digit d)) _ _ _ c.all.ensures.ran (YieldsList-from_slice line cc) (λ x b q k. search (rules, tests))
    ∙ sym (digits_spell line ∙ ap (λ b. b && list_all (λ d. is_some (digit d)) line) (eq-eqb _ _ c.if-line-eq0.true))

pub returns-else-line-eq0 : goal.returns-else-line-eq0
returns-else-line-eq0 c =
    let line = c.args.line.now in
    let odd = ne_eqb _ _ c.if-line-eq0.false in
    odd ∙ sym (digits_spell line ∙ ap (λ b. b && list_all (λ d. is_some (digit d)) line) odd)

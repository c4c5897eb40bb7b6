use Rattle.std.proofs.Common.{sym, ap, ◌∙◌, rules}
use borrow.Author.Tests.{tests}
use Rattle.std.proofs.lemmas.Iterator.{YieldsList-from_slice}
use Rattle.std.proofs.lemmas.Iterator.Search.{all_from_yields_List}
use Rattle.kinds.specs.Answers.{test}
use Rattle.frames.specs.declared.refusal.FrameRefusal.TheVariants.{UnprintableText}
use Rattle.frames.specs.Frames.{is_printable}
use Rattle.frames.proofs.reading.check_text.Goals as goal

pub returns-then-all : goal.returns-then-all
returns-then-all c =
    ap (λ b. test b UnprintableText)
    (sym c.if-all.true ∙ all_from_yields_List is_printable _ _ _ c.all.ensures.ran (YieldsList-from_slice c.args.text.now cc) (λ x b q k. search (rules, tests)))

use Rattle.std.proofs.Common.{◌++◌, take, ap, ◌∙◌}
use Rattle.logs.proofs.Kept.{extended}
use Rattle.logs.proofs.partial.PartialLine.extend.Goals as goal

pub returns : goal.returns
returns c =
    let s = c.self.inside in
    extended s.characters c.args.more.now c.copy_from_slice.new.self s.len _ _ c.self.invariant.few c.self.told c.min-count.ensures c.copy_from_slice.ensures.after
    ∙ ap (λ line. take 81 (line.kept ++ c.args.more.now)) c.self.view_is

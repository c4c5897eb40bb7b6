use Rattle.std.proofs.Common.{sym}
use Rattle.playback.proofs.Counting.{plays_line}
use Rattle.playback.proofs.replay.Replay.play_line.Goals as goal

pub returns : goal.returns
returns g c =
    plays_line g.R.Rows.columns c.args.self.now c.try_line-tried.new.self c.count.new.self c.args.line.now c.try_line-tried.result c.count.result (sym c.if-has_ended.ensures) c.try_line-tried.ensures c.count.ensures

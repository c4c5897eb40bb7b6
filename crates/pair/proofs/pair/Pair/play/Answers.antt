use Rattle.kinds.specs.declared.side.Side.TheVariants.{Left, Right}
use Rattle.pair.proofs.Builds.{edit_stays, edit_builds}
use Rattle.pair.proofs.Playing.{plays_frame}
use Rattle.pair.proofs.pair.Pair.play.Goals as goal

pub returns-in-Left-clause-plays : goal.returns-in-Left-clause-plays
returns-in-Left-clause-plays g c = plays_frame g.R.Rows.columns c.args.self.now _ c.args.bytes.now _ Left c.in_ok-said.said c.in_ok-said.ensures.says c.in-Left.is c.play_sheet.ensures

pub returns-in-Left-clause-stays : goal.returns-in-Left-clause-stays
returns-in-Left-clause-stays g c = edit_stays g.R.Rows.columns g.met.R.Rows.lawful _ _ Left _ _ c.play_sheet.ensures

pub returns-in-Left-clause-builds : goal.returns-in-Left-clause-builds
returns-in-Left-clause-builds g c = edit_builds g.R.Rows.columns g.met.R.Rows.lawful _ _ Left _ _ c.play_sheet.ensures

pub returns-in-Right-clause-plays : goal.returns-in-Right-clause-plays
returns-in-Right-clause-plays g c = plays_frame g.R.Rows.columns c.args.self.now _ c.args.bytes.now _ Right c.in_ok-said.said c.in_ok-said.ensures.says c.in-Right.is c.play_table.ensures

pub returns-in-Right-clause-stays : goal.returns-in-Right-clause-stays
returns-in-Right-clause-stays g c = edit_stays g.R.Rows.columns g.met.R.Rows.lawful _ _ Right _ _ c.play_table.ensures

pub returns-in-Right-clause-builds : goal.returns-in-Right-clause-builds
returns-in-Right-clause-builds g c = edit_builds g.R.Rows.columns g.met.R.Rows.lawful _ _ Right _ _ c.play_table.ensures

use Rattle.playback.proofs.Whole.{as_its_lines}
use Rattle.playback.proofs.laws.feeding_in_pieces.Goals as goal

pub returns : goal.returns
returns g c = λ d log pieces is. as_its_lines g.R.Rows.columns d log pieces is

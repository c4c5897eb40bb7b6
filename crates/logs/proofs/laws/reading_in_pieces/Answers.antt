use Rattle.logs.proofs.Feeding.{in_pieces, as_lines}
use Rattle.logs.proofs.laws.reading_in_pieces.Goals as goal

pub returns : goal.returns
returns g c = record { pieces = λ r. in_pieces r; lines = λ r. as_lines r }

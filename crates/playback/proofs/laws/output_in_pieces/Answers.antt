use Rattle.std.proofs.Common.{◌++◌}
use Rattle.std.specs.List.{concat}
use Rattle.playback.specs.Days.{begun}
use Rattle.playback.specs.Printed.{report_lines}
use Rattle.playback.proofs.Whole.{as_its_lines}
use Rattle.playback.proofs.laws.output_in_pieces.Goals as goal

pub returns : goal.returns
returns g c = λ d log pieces is.
    let lines = as_its_lines g.R.Rows.columns (begun d) log pieces is in
    (λ i. lines.reports_are i ++ concat (report_lines (lines.day_is i)))

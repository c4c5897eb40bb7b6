use Rattle.links.specs.ColumnsLemmas.{row_lawful}
use Rattle.links.proofs.laws.row_is_lawful.Goals as goal

pub returns : goal.returns
returns g c =
    row_lawful g.P0.Link.lens g.met.P0.Link.lawful g.P1.Link.lens g.met.P1.Link.lawful g.P2.Link.lens g.met.P2.Link.lawful g.P3.Link.lens g.met.P3.Link.lawful

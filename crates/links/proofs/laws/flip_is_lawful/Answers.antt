use Rattle.links.specs.Flips.{flip_lawful}
use Rattle.links.proofs.laws.flip_is_lawful.Goals as goal

pub returns : goal.returns
returns g c =
    let law = flip_lawful g.L.Link.lens g.met.L.Link.lawful in
    record { lawful = law; agrees = λ s x y. ((λ a. let b = law.bounded s x y a in (b.0, b.1, a)), (λ a. a.2)) }

use Rattle.std.proofs.Common.{true}
use Rattle.links.specs.Chains.{chain_lawful, agrees_on, agrees_off}
use Rattle.links.proofs.laws.chain_is_lawful.Goals as goal

pub returns : goal.returns
returns g c =
    let l = g.L.Link.lens in
    let l_law = g.met.L.Link.lawful in
    let m = g.M.Link.lens in
    let m_law = g.met.M.Link.lawful in
    record { lawful = chain_lawful l l_law m m_law; agrees = λ c x y on. (agrees_on l l_law m m_law c x y true on, agrees_off l l_law m m_law c x y true on) }

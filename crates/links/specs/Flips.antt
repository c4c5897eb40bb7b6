-- A link turned round is lawful.
use Rattle.std.specs.Prelude.{refl}
use Rattle.std.proofs.Common.{ap}
use Rattle.links.specs.declared.flip.Flip.{Flip}
use Rattle.kinds.specs.declared.side.Side.TheVariants.{Left, Right}
use Rattle.links.specs.Laws.{Way, Lens, from, Sends, Lawful}
use Rattle.links.specs.Layers.{flip, flipped}
use Rattle.links.specs.Parts.{whole, whole_sends}

-- the flipped link carries as the link inside it
inside_sends : {S : Type 0} (w : Way S) → Sends w → Sends (whole (λ (s : Flip S). s.inner) (λ s t. flip t) (λ s. flip (w.fresh s.inner)) w)
inside_sends w law = whole_sends (λ s. s.inner) (λ s t. flip t) (λ s. flip (w.fresh s.inner)) w law (λ r s. refl) (λ r. refl) (λ r s t. refl) (λ r s h. ap flip h)

pub flip_lawful : {S : Type 0} (l : Lens S) → Lawful l → Lawful (flipped l)
flip_lawful l law = record {
  starts = λ s. law.starts s.inner;
  bounded = λ s y x a. let b = law.bounded s.inner x y a in (b.1, b.0);
  resets = λ s. ap flip (law.resets s.inner);
  kinds = λ s t e. let k = law.kinds s.inner t.inner (ap (λ o. o.inner) e) in (k.1, k.0);
  sends = λ side. elim side as (λ o. Sends (from o (flipped l))) [
    | Left ↦ inside_sends (from Right l) (law.sends Right)
    | Right ↦ inside_sends (from Left l) (law.sends Left)
  ];
}

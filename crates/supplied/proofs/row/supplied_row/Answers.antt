use Rattle.std.proofs.Common.{◌≡◌, refl}
use Rattle.kinds.proofs.Same.{kind_same}
use Rattle.kinds.specs.declared.kind.Kind.{Kind}
use Rattle.kinds.specs.Kinds.{same_kind}
use Rattle.supplied.specs.declared.carry.Carry.{Carry}
use Rattle.supplied.specs.declared.low.Low.{Low}
use Rattle.links.specs.Layers.{chain, flip}
use Rattle.links.specs.Columns.{row}
use Rattle.supplied.specs.Supplied.{SuppliedRow}
use Rattle.supplied.specs.CarriesLemmas.{carry_same}
use Rattle.supplied.specs.LowBitsLemmas.{low_same}
use Rattle.supplied.proofs.row.supplied_row.Goals as goal

abbrev made : Carry → Carry → Low → Kind → SuppliedRow
made a b l k = row (record {}) (chain a b) l (flip (record { kind = k }))

made-same : (a a' b b' : Carry) (l l' : Low) (k k' : Kind) → a ≡ a' → b ≡ b' → l ≡ l' → k ≡ k' → made a b l k ≡ made a' b' l' k'
made-same a a' b b' l l' k k' p q r s = λ i. made (p i) (q i) (r i) (s i)

pub returns : goal.returns
unfolding same_kind
returns c = record {
  row = made-same _ _ _ _ _ _ _ _ (carry_same _ _ refl refl refl) (carry_same _ _ refl refl refl) (low_same _ _ refl refl) (kind_same _ _ refl refl);
  kinds = record {
    left_0 = (refl, refl);
    right_0 = (refl, refl);
    left_1 = (refl, refl);
    right_1 = (refl, refl);
    left_2 = (refl, refl);
    right_2 = (refl, refl);
    left_3 = (refl, refl);
    right_3 = (refl, refl);
  };
}

-- The row of links that is supplied.
use Rattle.std.specs.Prelude.{◌≡◌, ℕ, refl}
use Rattle.std.proofs.Common.{arith}
use Rattle.kinds.specs.declared.kind.Letter.{Letter}
use Rattle.kinds.specs.declared.kind.Letter.TheVariants.{Amount, Choice, Flags, Blank}
use Rattle.kinds.specs.declared.side.Side.{Side}
use Rattle.kinds.specs.declared.side.Side.TheVariants.{Left, Right}
use Rattle.supplied.specs.declared.label.Label.{Label}
use Rattle.supplied.specs.declared.carry.Carry.{Carry}
use Rattle.links.specs.declared.chain.Chain.{Chain}
use Rattle.supplied.specs.declared.low.Low.{Low}
use Rattle.links.specs.declared.flip.Flip.{Flip}
use Rattle.supplied.specs.declared.private.Private.{Private}
use Rattle.links.specs.declared.row.Row.{Row}
use Rattle.links.specs.Layers.{flip, flipped, chain, chained}
use Rattle.supplied.specs.Memoryless.{label, private}
use Rattle.supplied.specs.LowBits.{low}
use Rattle.supplied.specs.Carries.{carrying}
use Rattle.links.specs.Columns.{Columns, row, four}

-- the types of its links
abbrev pub SuppliedRow : Type 0
SuppliedRow = Row Label (Chain Carry Carry) Low (Flip Private)

-- a label; thousands and then twenties; the lowest 4 of 16 flags; one of 16 choices that only the right side sees
abbrev pub supplied_row : SuppliedRow
supplied_row =
    row (record {})
    (chain (record { ratio = 1000; limit = 1999999; rest = 0; positive = omega arith; small = omega arith; below = omega arith }) (record { ratio = 20; limit = 99999; rest = 0; positive = omega arith; small = omega arith; below = omega arith }))
    (record { kept = 4; width = 16; some = omega arith; narrow = omega arith; small = omega arith })
    (flip (record { kind = record { letter = Choice; limit = 15; proper = refl } }))

-- what such a row is
abbrev pub supplied_columns : Columns SuppliedRow
supplied_columns = four label (chained carrying carrying) low (flipped private)

-- the letter and the limit of a side's column
abbrev pub OfKind : SuppliedRow → Side → ℕ → Letter → ℕ → Type 0
OfKind r side c letter limit = ((supplied_columns.kind side c r).letter ≡ letter) × ((supplied_columns.kind side c r).limit ≡ limit)

-- the kinds of both sides, column by column
pub record SuppliedKinds (r : SuppliedRow) : Type 0 where
  pub left_0 : OfKind r Left 0 Choice 255
  pub right_0 : OfKind r Right 0 Choice 255
  pub left_1 : OfKind r Left 1 Amount 1999999999
  pub right_1 : OfKind r Right 1 Amount 99999
  pub left_2 : OfKind r Left 2 Flags 65535
  pub right_2 : OfKind r Right 2 Flags 15
  pub left_3 : OfKind r Left 3 Blank 0
  pub right_3 : OfKind r Right 3 Choice 15

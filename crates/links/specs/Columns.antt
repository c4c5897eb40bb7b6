-- Links side by side, one to a column.
use Rattle.std.specs.Prelude.{◌≡◌, ℕ, zero, suc, ◌<◌, ◌≤◌, cond, Ok, Err, Result, ◌==◌, ◌≢◌, nat_lt}
use Rattle.kinds.specs.declared.kind.Kind.{Kind}
use Rattle.kinds.specs.declared.change.Change.{Change}
use Rattle.kinds.specs.Kinds.{blank}
use Rattle.kinds.specs.declared.side.Side.{Side}
use Rattle.kinds.specs.declared.side.Side.TheVariants.{Left, Right}
use Rattle.links.specs.declared.refusal.CarryRefusal.{CarryRefusal}
use Rattle.links.specs.declared.refusal.CarryRefusal.TheVariants.{NotOfKind}
use Rattle.links.specs.declared.rows.ColumnFault.{ColumnFault}
use Rattle.links.specs.declared.row.Row.{Row}
use Rattle.links.specs.declared.row.Column.{Column as Place}
use Rattle.links.specs.declared.row.Column.TheVariants.{First, Second, Third, Fourth}
use Rattle.links.specs.Laws.{Carried, sent, refused, Way, Lens, from, Lawful}
use Rattle.links.specs.Layers.{put}

-- A row of links: of each column the kinds of both sides, the agreement, which takes the left value first, and the carrying
-- from a side.
pub record Columns (R : Type 0) : Type 1 where
  pub kind : Side → ℕ → R → Kind
  pub fresh : R → R
  pub agrees : ℕ → R → ℕ → ℕ → Type 0
  pub carry : Side → ℕ → R → Change → Carried R

-- a column as a link, whose memory is that of the whole row
abbrev pub column : {R : Type 0} → Columns R → ℕ → Lens R
column row c = record {
  left = row.kind Left c;
  right = row.kind Right c;
  fresh = row.fresh;
  agrees = row.agrees c;
  rightward = row.carry Left c;
  leftward = row.carry Right c;
}

-- the side across
abbrev pub across : Side → Side
across Left = Right
across Right = Left

-- an agreement that takes the left value first, with the value of a side first
abbrev pub facing : Side → (ℕ → ℕ → Type 0) → ℕ → ℕ → Type 0
facing Left agrees x y = agrees x y
facing Right agrees y x = agrees x y

-- the direction of a column that starts at a side
abbrev pub column_way : {R : Type 0} → Columns R → Side → ℕ → Way R
column_way row side c = record {
  near = row.kind side c;
  far = row.kind (across side) c;
  fresh = row.fresh;
  agrees = λ r. facing side (row.agrees c r);
  carry = row.carry side c;
}

-- The law of a row of so many columns.
pub record LawfulRow {R : Type 0} (count : ℕ) (row : Columns R) : Type 0 where
  -- each column is a lawful link
  pub each : (c : ℕ) → c < count → Lawful (column row c)
  -- carrying in one column leaves the agreement in every other
  pub apart : (side : Side) (b c : ℕ) (s t : R) (e f : Change) (x y : ℕ) → b ≢ c → row.carry side c s e ≡ sent f t → row.agrees b s x y → row.agrees b t x y
  -- beyond them no change is of the kind
  pub beyond : (side : Side) (c : ℕ) (s : R) (e : Change) → count ≤ c → row.carry side c s e ≡ refused NotOfKind

-- a refusal in a column
abbrev pub fault : ℕ → CarryRefusal → ColumnFault
fault column refusal = record { column = column; refusal = refusal }

-- what stands in a column, of which there are four
abbrev pub of_four : {X : Type 0} → ℕ → X → Result X ColumnFault
of_four c x = cond (nat_lt c 4) (Ok x) (Err (fault c NotOfKind))

-- what the caller is told of carrying in a column
abbrev pub column_answer : {R : Type 0} → ℕ → Carried R → Result Change ColumnFault
column_answer c (sent f t) = Ok f
column_answer c (refused n) = Err (fault c n)

-- one thing to a column, and one beyond the four
abbrev pub in_column : {X : Type 0} → ℕ → X → X → X → X → X → X
in_column c x0 x1 x2 x3 none = cond (c == 0) x0 (cond (c == 1) x1 (cond (c == 2) x2 (cond (c == 3) x3 none)))

-- one statement to a column, and one beyond the four
abbrev pub InColumn : ℕ → Type 0 → Type 0 → Type 0 → Type 0 → Type 0 → Type 0
InColumn zero p0 p1 p2 p3 none = p0
InColumn (suc zero) p0 p1 p2 p3 none = p1
InColumn (suc (suc zero)) p0 p1 p2 p3 none = p2
InColumn (suc (suc (suc zero))) p0 p1 p2 p3 none = p3
InColumn (suc (suc (suc (suc n)))) p0 p1 p2 p3 none = none

-- the place of the link in a column; beyond the four there is none, and it does not matter which is named
abbrev pub column_at : ℕ → Place
column_at c = in_column c First Second Third Fourth Fourth

-- four links side by side
abbrev pub row : {A B C D : Type 0} → A → B → C → D → Row A B C D
row a b c d = record { first = a; second = b; third = c; fourth = d }

-- what four links side by side are
abbrev pub four : {A B C D : Type 0} → Lens A → Lens B → Lens C → Lens D → Columns (Row A B C D)
four k l m n = record {
  kind = λ side c r. in_column c ((from side k).near r.first) ((from side l).near r.second) ((from side m).near r.third) ((from side n).near r.fourth) blank;
  fresh = λ r. row (k.fresh r.first) (l.fresh r.second) (m.fresh r.third) (n.fresh r.fourth);
  agrees = λ c r x y. InColumn c (k.agrees r.first x y) (l.agrees r.second x y) (m.agrees r.third x y) (n.agrees r.fourth x y) ((x ≡ 0) × (y ≡ 0));
  carry = λ side c r e.
      in_column c
      (put (λ s. row s r.second r.third r.fourth) ((from side k).carry r.first e))
      (put (λ s. row r.first s r.third r.fourth) ((from side l).carry r.second e))
      (put (λ s. row r.first r.second s r.fourth) ((from side m).carry r.third e))
      (put (λ s. row r.first r.second r.third s) ((from side n).carry r.fourth e))
      (refused NotOfKind);
}

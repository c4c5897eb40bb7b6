-- A line that has begun, and the fields that keep it.
use Rattle.std.specs.Prelude.{◌≡◌, ℕ, ◌≤◌, List, ◌++◌, length, take, drop}
use Rattle.std.proofs.Common.{ap, ◌∙◌}
use Rattle.std.proofs.lemmas.List.{take-append-drop, length-take-le}
use Rattle.logs.specs.Begun.{Begun}
use Rattle.logs.specs.declared.partial.PartialLine.TheInside.{Inside}

-- what the fields keep
abbrev pub begun : Inside → Begun
begun line = record { kept = take line.len line.characters; spare = drop line.len line.characters }

-- the fields that keep it
abbrev pub fields : Begun → Inside
fields line = record { characters = line.kept ++ line.spare; len = length line.kept }

-- At most 81 characters are kept, and no more than there are places.
pub record Within (line : Inside) : Type 0 where
  pub few : line.len ≤ 81
  pub placed : line.len ≤ length line.characters

-- ---- a lemma, which lies here since the model cites it

of : List ℕ → ℕ → Inside
of characters len = record { characters = characters; len = len }

-- what is kept gives the fields back
pub given_back : (line : Inside) → Within line → fields (begun line) ≡ line
unfolding of
given_back line within =
    ap (λ cs. of cs (length (take line.len line.characters))) (take-append-drop line.len line.characters) ∙ ap (of line.characters) (length-take-le line.len line.characters within.placed)

-- A log in pieces is read like the whole log, and the whole log like its lines.
use Rattle.std.proofs.Common.{◌≡◌, ℕ, List, [], ◌∷◌, ◌++◌, refl, ap, ap₂, ◌∙◌}
use Rattle.std.specs.List.{concat}
use Rattle.links.specs.Columns.{Columns}
use Rattle.logs.specs.Feeding.{Reader, Midst, midst, fed, said, at_end, said_at_end}
use Rattle.logs.proofs.Feeding.{in_pieces, as_lines}
use Rattle.playback.specs.Days.{Day}
use Rattle.playback.specs.Readers.{reader}
use Rattle.playback.specs.Pieces.{fed_all, said_all, AsItsLines}
use Rattle.playback.proofs.Reading.{reads81}

module _ {D : Type 0} (r : Reader D) where
  all_fed : (m : Midst D) (pieces : List (List ℕ)) → fed_all r m pieces ≡ fed r m (concat pieces)
  all_fed m [] = refl
  all_fed m (piece ∷ pieces) = all_fed (fed r m piece) pieces ∙ (in_pieces r).fed_on m piece (concat pieces)

  all_said : (m : Midst D) (pieces : List (List ℕ)) → said_all r m pieces ≡ said r m (concat pieces)
  all_said m [] = refl
  all_said m (piece ∷ pieces) = ap (λ l. said r m piece ++ l) (all_said (fed r m piece) pieces) ∙ (in_pieces r).said_on m piece (concat pieces)

pub as_its_lines : {R : Type 0} (row : Columns R) (d : Day R) (log : List ℕ) (pieces : List (List ℕ)) → concat pieces ≡ log → AsItsLines row d log pieces
as_its_lines row d log pieces is =
    let r = reader row in
    let begun = midst d [] in
    let one = all_fed r begun pieces ∙ ap (fed r begun) is in
    let lines = as_lines r (reads81 row) in
    record {
      day_is = ap (at_end r) one ∙ lines.state_is d log;
      reports_are =
          ap₂ (λ l m. l ++ said_at_end r m) (all_said r begun pieces ∙ ap (said r begun) is) one
          ∙ lines.said_is d log;
    }

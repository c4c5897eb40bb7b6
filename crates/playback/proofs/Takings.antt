-- Bytes taken from a piece, and then from the rest of it.
use Rattle.std.proofs.Common.{◌≡◌, ℕ, ◌+◌, ◌-◌, List, ◌++◌, length, take, drop, sym, ap, subst, ◌∙◌, length-drop, arith}
use borrow.Rule.Slice.PartMut.{put_mid}
use Rattle.std.proofs.Math.Seq.{take-add}
use Rattle.std.proofs.lemmas.Slice.{between_to_end}
use Rattle.links.specs.Columns.{Columns}
use Rattle.logs.specs.Feeding.{fed, said}
use Rattle.logs.proofs.Feeding.{in_pieces}
use Rattle.playback.specs.declared.replay.Replay.{Replay}
use Rattle.playback.specs.declared.replay.feeding.Fed.{Fed}
use Rattle.playback.specs.Readers.{reader}
use Rattle.playback.specs.States.{reading}
use Rattle.playback.specs.Feedings.{Takes}
use Rattle.playback.proofs.Writings.{written_as, written_on, put_end}

module _ {R : Type 0} (row : Columns R) (s t u : Replay R) (piece before middle rest : List ℕ) (a b : Fed) where
  both : Fed
  both = record { taken = a.taken + b.taken; written = a.written + b.written }

  then : Takes row s piece before a t middle → Takes row t (drop a.taken piece) (drop a.written middle) b u rest → Takes row s piece before both u (take a.written middle ++ rest)
  unfolding both
  then first second =
      let r = reader row in
      let front = take a.taken piece in
      let back = take b.taken (drop a.taken piece) in
      let whole : take (a.taken + b.taken) piece ≡ front ++ back = take-add a.taken b.taken piece in
      let texts : said r (reading s) front ++ said r (reading t) back ≡ said r (reading s) (take (a.taken + b.taken) piece) =
      ap (λ m. said r (reading s) front ++ said r m back) first.leaves ∙ (in_pieces r).said_on (reading s) front back ∙ ap (said r (reading s)) (sym whole) in
      record {
        within = omega (arith, first.within, second.within, length-drop a.taken piece);
        leaves = second.leaves ∙ ap (λ m. fed r m back) first.leaves ∙ (in_pieces r).fed_on (reading s) front back ∙ ap (fed r (reading s)) (sym whole);
        reports =
            written_as _ _ before _ _ texts
            (written_on (said r (reading s) front) (said r (reading t) back) before middle rest a.written b.written first.reports second.reports);
      }

  pub takes_on : Takes row s piece before a t middle →
      Takes row t (take (length piece - a.taken) (drop a.taken piece)) (take (length middle - a.written) (drop a.written middle)) b u rest →
      Takes row s piece before (record { taken = a.taken + b.taken; written = a.written + b.written }) u (put_mid a.written (length middle - a.written) middle rest)
  unfolding both
  takes_on first second =
      let left = between_to_end piece a.taken (length piece) (omega arith) in
      let room = between_to_end middle a.written (length middle) (omega arith) in
      subst (Takes row s piece before both u) (sym (put_end a.written middle rest))
      (then first (subst (λ p. Takes row t p (drop a.written middle) b u rest) left (subst (λ m. Takes row t (take (length piece - a.taken) (drop a.taken piece)) m b u rest) room second)))

-- nothing taken, nothing written
pub none_written : {R : Type 0} (row : Columns R) (s t : Replay R) (piece before after : List ℕ) (a : Fed) → Takes row s piece before a t after → a.taken ≡ 0 → a.written ≡ 0
none_written row s t piece before after a takes none = takes.reports.counts ∙ ap (λ k. length (said (reader row) (reading s) (take k piece))) none

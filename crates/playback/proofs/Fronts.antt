-- Bytes taken from the front of a piece, up to the end of a line or of the piece.
use Rattle.std.proofs.Common.{◌≡◌, ℕ, ◌+◌, ◌≤◌, List, [], ◌++◌, length, take, drop, Some, None, sym, ap, ◌∙◌, append-nil, arith}
use Rattle.std.proofs.Math.Seq.{take-length}
use Rattle.std.proofs.Math.ListN.{drop_of_length-le}
use Rattle.std.proofs.lemmas.List.{take_all, take-take, length-take, length-take-le, get_or-take}
use Rattle.logs.specs.Logs.{LineEnd}
use Rattle.logs.specs.Feeding.{Reader, Reads81, midst, fed, said}
use Rattle.logs.proofs.Feeding.{goes_on, line_ends}

module _ {D : Type 0} (r : Reader D) (d : D) (start piece : List ℕ) (short : length start ≤ 81) where
  -- no newline: all bytes belong to the line
  module _ (none : LineEnd piece None) where
    pub all_fed : midst d (take 81 (start ++ piece)) ≡ fed r (midst d start) (take (length piece) piece)
    all_fed = sym (ap (fed r (midst d start)) (take-length piece) ∙ (goes_on r d start piece (take_all 81 start short) none).0)

    pub all_said : [] ≡ said r (midst d start) (take (length piece) piece)
    all_said = sym (ap (said r (midst d start)) (take-length piece) ∙ (goes_on r d start piece (take_all 81 start short) none).1)

  -- a newline: the bytes before it belong to the line, which is read by its first 81 characters
  module _ (cut : Reads81 r) (n : ℕ) (at : LineEnd piece (Some n)) where
    line : List ℕ
    line = start ++ take n piece

    front_ends : LineEnd (take (n + 1) piece) (Some n)
    front_ends = (
      omega (arith, length-take-le (n + 1) piece (omega (arith, at.0)), at.0),
      get_or-take (n + 1) piece n 0 (omega arith) ∙ at.1,
      λ k lt e. at.2 k lt (sym (get_or-take (n + 1) piece k 0 (omega arith)) ∙ e),
    )

    none_left : drop (n + 1) (take (n + 1) piece) ≡ []
    none_left = drop_of_length-le (take (n + 1) piece) (omega (arith, length-take-le (n + 1) piece (omega (arith, at.0))))

    front_is : take n (take (n + 1) piece) ≡ take n piece
    front_is = take-take n (n + 1) piece (omega arith)

    pub line_fed : midst (r.next d (take 81 (start ++ take n piece))) [] ≡ fed r (midst d start) (take (n + 1) piece)
    line_fed =
        ap (λ e. midst e []) (cut.next_cut d (start ++ take n piece))
        ∙ sym
        ((line_ends r cut d start (take (n + 1) piece) n (take_all 81 start short) front_ends).0
        ∙ ap (fed r (midst (r.next d (start ++ take n (take (n + 1) piece))) [])) none_left
        ∙ ap (λ l. midst (r.next d (start ++ l)) []) front_is)

    pub line_said : r.says d (take 81 (start ++ take n piece)) ≡ said r (midst d start) (take (n + 1) piece)
    line_said =
        cut.says_cut d (start ++ take n piece)
        ∙ sym
        ((line_ends r cut d start (take (n + 1) piece) n (take_all 81 start short) front_ends).1
        ∙ ap (λ l. r.says d (start ++ take n (take (n + 1) piece)) ++ said r (midst (r.next d (start ++ take n (take (n + 1) piece))) []) l) none_left
        ∙ append-nil (r.says d (start ++ take n (take (n + 1) piece)))
        ∙ ap (λ l. r.says d (start ++ l)) front_is)

-- what is kept of a line is short
pub kept_short : (n : ℕ) (kept line : List ℕ) → kept ≡ take n line → length kept ≤ n
kept_short n kept line is = omega (arith, ap length is, length-take n line)

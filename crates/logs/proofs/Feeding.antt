-- Pieces of a log come to the same as the whole, and bytes to the same as lines.
use Rattle.std.proofs.Common.{◌≡◌, ℕ, zero, suc, ◌+◌, true, false, cond, eqb, List, [], ◌∷◌, ◌++◌, take, drop, Some, None, sym, refl, ap, ◌∙◌, ⊎_elim, append_assoc, append-nil, add-one, arith}
use Rattle.std.proofs.lemmas.Bool.{cases_Bool, eq-eqb, ne_eqb}
use Rattle.logs.specs.Logs.{lines_of, onto, LineEnd}
use Rattle.logs.specs.Feeding.{Reader, after_lines, said_of, Midst, midst, after_byte, said_at, fed, said, last_line, at_end, said_at_end, Reads81, InPieces, AsLines}

-- ---- cutting twice is cutting once

pub cut_again : (n : ℕ) (xs ys : List ℕ) → take n (take n xs ++ ys) ≡ take n (xs ++ ys)
cut_again zero xs ys = refl
cut_again (suc n) [] ys = refl
cut_again (suc n) (x ∷ xs) ys = ap (λ l. x ∷ l) (cut_again n xs ys)

pub cut_twice : (n : ℕ) (xs : List ℕ) → take n (take n xs) ≡ take n xs
cut_twice zero xs = refl
cut_twice (suc n) [] = refl
cut_twice (suc n) (x ∷ xs) = ap (λ l. x ∷ l) (cut_twice n xs)

module _ {D : Type 0} (r : Reader D) where
  -- ---- pieces

  fed_on : (m : Midst D) (first second : List ℕ) → fed r (fed r m first) second ≡ fed r m (first ++ second)
  fed_on m [] second = refl
  fed_on m (b ∷ first) second = fed_on (after_byte r m b) first second

  said_on : (m : Midst D) (first second : List ℕ) → said r m first ++ said r (fed r m first) second ≡ said r m (first ++ second)
  said_on m [] second = refl
  said_on m (b ∷ first) second =
      append_assoc (said_at r m b) (said r (after_byte r m b) first) (said r (fed r (after_byte r m b) first) second)
      ∙ ap (λ l. said_at r m b ++ l) (said_on (after_byte r m b) first second)

  pub in_pieces : InPieces r
  in_pieces = record { fed_on = fed_on; said_on = said_on }

  -- ---- lines

  -- what has begun goes before the first line, and is a line of its own if there is none
  begun : List ℕ → List (List ℕ) → List (List ℕ)
  begun start [] = last_line start
  begun start (line ∷ lines) = (start ++ line) ∷ lines

  begun_on : (start : List ℕ) (b : ℕ) (lines : List (List ℕ)) → begun (start ++ b ∷ []) lines ≡ begun start (onto b lines)
  unfolding begun
  begun_on [] b [] = refl
  begun_on (c ∷ start) b [] = refl
  begun_on start b (line ∷ lines) = ap (λ l. l ∷ lines) (append_assoc start (b ∷ []) line)

  begun_none : (lines : List (List ℕ)) → begun [] lines ≡ lines
  unfolding begun
  begun_none [] = refl
  begun_none (line ∷ lines) = refl

  -- ---- what a byte does: a newline ends the line, and any other belongs to it

  byte_ends : (m : Midst D) (b : ℕ) → eqb b 10 ≡ true → after_byte r m b ≡ midst (r.next m.state m.start) []
  byte_ends m b t = ap (λ v. cond v (midst (r.next m.state m.start) []) (midst m.state (take 81 (m.start ++ b ∷ [])))) t

  byte_goes_on : (m : Midst D) (b : ℕ) → eqb b 10 ≡ false → after_byte r m b ≡ midst m.state (take 81 (m.start ++ b ∷ []))
  byte_goes_on m b t = ap (λ v. cond v (midst (r.next m.state m.start) []) (midst m.state (take 81 (m.start ++ b ∷ [])))) t

  said_ends : (m : Midst D) (b : ℕ) → eqb b 10 ≡ true → said_at r m b ≡ r.says m.state m.start
  said_ends m b t = ap (λ v. cond v (r.says m.state m.start) []) t

  said_goes_on : (m : Midst D) (b : ℕ) → eqb b 10 ≡ false → said_at r m b ≡ []
  said_goes_on m b t = ap (λ v. cond v (r.says m.state m.start) []) t

  lines_end : (b : ℕ) (bytes : List ℕ) → eqb b 10 ≡ true → lines_of (b ∷ bytes) ≡ [] ∷ lines_of bytes
  lines_end b bytes t = ap (λ v. cond v ([] ∷ lines_of bytes) (onto b (lines_of bytes))) t

  lines_go_on : (b : ℕ) (bytes : List ℕ) → eqb b 10 ≡ false → lines_of (b ∷ bytes) ≡ onto b (lines_of bytes)
  lines_go_on b bytes t = ap (λ v. cond v ([] ∷ lines_of bytes) (onto b (lines_of bytes))) t

  -- what is said until the end
  whole : Midst D → List ℕ → List ℕ
  whole m bytes = said r m bytes ++ said_at_end r (fed r m bytes)

  whole_ends : (m : Midst D) (b : ℕ) (bytes : List ℕ) → eqb b 10 ≡ true → whole m (b ∷ bytes) ≡ r.says m.state m.start ++ whole (midst (r.next m.state m.start) []) bytes
  unfolding whole
  whole_ends m b bytes t =
      append_assoc (said_at r m b) (said r (after_byte r m b) bytes) (said_at_end r (fed r (after_byte r m b) bytes))
      ∙ ap (λ l. l ++ whole (after_byte r m b) bytes) (said_ends m b t)
      ∙ ap (λ n. r.says m.state m.start ++ whole n bytes) (byte_ends m b t)

  whole_goes_on : (m : Midst D) (b : ℕ) (bytes : List ℕ) → eqb b 10 ≡ false → whole m (b ∷ bytes) ≡ whole (midst m.state (take 81 (m.start ++ b ∷ []))) bytes
  unfolding whole
  whole_goes_on m b bytes t =
      append_assoc (said_at r m b) (said r (after_byte r m b) bytes) (said_at_end r (fed r (after_byte r m b) bytes))
      ∙ ap (λ l. l ++ whole (after_byte r m b) bytes) (said_goes_on m b t)
      ∙ ap (λ n. whole n bytes) (byte_goes_on m b t)

  module _ (short : Reads81 r) where
    next_is : (d : D) (line : List ℕ) → r.next d (take 81 line) ≡ r.next d (line ++ [])
    next_is d line = short.next_cut d line ∙ ap (r.next d) (sym (append-nil line))

    says_is : (d : D) (line : List ℕ) → r.says d (take 81 line) ≡ r.says d (line ++ [])
    says_is d line = short.says_cut d line ∙ ap (r.says d) (sym (append-nil line))

    state_is : (d : D) (start bytes : List ℕ) → at_end r (fed r (midst d (take 81 start)) bytes) ≡ after_lines r d (begun start (lines_of bytes))
    unfolding begun
    state_is d [] [] = refl
    state_is d (c ∷ start) [] = short.next_cut d (c ∷ start)
    state_is d start (b ∷ bytes) =
        let m = midst d (take 81 start) in
        ⊎_elim
        (λ t.
        ap (λ n. at_end r (fed r n bytes)) (byte_ends m b t) ∙ state_is (r.next d (take 81 start)) [] bytes ∙ ap (after_lines r (r.next d (take 81 start))) (begun_none (lines_of bytes))
        ∙ ap (λ e. after_lines r e (lines_of bytes)) (next_is d start) ∙ sym (ap (λ l. after_lines r d (begun start l)) (lines_end b bytes t)))
        (λ t.
        ap (λ n. at_end r (fed r n bytes)) (byte_goes_on m b t ∙ ap (midst d) (cut_again 81 start (b ∷ []))) ∙ state_is d (start ++ b ∷ []) bytes
        ∙ ap (after_lines r d) (begun_on start b (lines_of bytes)) ∙ sym (ap (λ l. after_lines r d (begun start l)) (lines_go_on b bytes t)))
        (cases_Bool (eqb b 10))

    said_is : (d : D) (start bytes : List ℕ) → whole (midst d (take 81 start)) bytes ≡ said_of r d (begun start (lines_of bytes))
    unfolding begun whole
    said_is d [] [] = refl
    said_is d (c ∷ start) [] = ap (λ l. l ++ []) (short.says_cut d (c ∷ start))
    said_is d start (b ∷ bytes) =
        let m = midst d (take 81 start) in
        ⊎_elim
        (λ t.
        whole_ends m b bytes t ∙ ap (λ l. r.says d (take 81 start) ++ l) (said_is (r.next d (take 81 start)) [] bytes ∙ ap (said_of r (r.next d (take 81 start))) (begun_none (lines_of bytes)))
        ∙ ap (λ l. l ++ said_of r (r.next d (take 81 start)) (lines_of bytes)) (says_is d start) ∙ ap (λ e. r.says d (start ++ []) ++ said_of r e (lines_of bytes)) (next_is d start)
        ∙ sym (ap (λ l. said_of r d (begun start l)) (lines_end b bytes t)))
        (λ t.
        whole_goes_on m b bytes t ∙ ap (λ s. whole (midst d s) bytes) (cut_again 81 start (b ∷ [])) ∙ said_is d (start ++ b ∷ []) bytes
        ∙ ap (said_of r d) (begun_on start b (lines_of bytes)) ∙ sym (ap (λ l. said_of r d (begun start l)) (lines_go_on b bytes t)))
        (cases_Bool (eqb b 10))

    pub as_lines : AsLines r
    unfolding whole
    as_lines = record {
      state_is = λ d log. state_is d [] log ∙ ap (after_lines r d) (begun_none (lines_of log));
      said_is = λ d log. said_is d [] log ∙ ap (said_of r d) (begun_none (lines_of log));
    }

  -- ---- a line at a time

  -- no newline: the line goes on
  pub goes_on : (d : D) (start bytes : List ℕ) → take 81 start ≡ start → LineEnd bytes None →
      (fed r (midst d start) bytes ≡ midst d (take 81 (start ++ bytes))) × (said r (midst d start) bytes ≡ [])
  goes_on d start [] kept none = (ap (midst d) (sym kept ∙ ap (take 81) (sym (append-nil start))), refl)
  goes_on d start (b ∷ bytes) kept none =
      let t = ne_eqb b 10 (none 0 (omega arith)) in
      let on = goes_on d (take 81 (start ++ b ∷ [])) bytes (cut_twice 81 (start ++ b ∷ [])) (λ k lt. none (suc k) (omega arith)) in (
        ap (λ m. fed r m bytes) (byte_goes_on (midst d start) b t) ∙ on.0
            ∙ ap (midst d) (cut_again 81 (start ++ b ∷ []) bytes ∙ ap (take 81) (append_assoc start (b ∷ []) bytes)),
        ap (λ l. l ++ said r (after_byte r (midst d start) b) bytes) (said_goes_on (midst d start) b t) ∙ ap (λ m. said r m bytes) (byte_goes_on (midst d start) b t) ∙ on.1,
      )

  -- a newline at n: the line ends there, and the next begins
  module _ (short : Reads81 r) where
    after_line : D → List ℕ → Midst D
    after_line d line = midst (r.next d line) []

    line_cut : (d : D) (start more : List ℕ) (b : ℕ) → r.next d (take 81 (start ++ b ∷ []) ++ more) ≡ r.next d (start ++ b ∷ more)
    line_cut d start more b =
        sym (short.next_cut d (take 81 (start ++ b ∷ []) ++ more)) ∙ ap (r.next d) (cut_again 81 (start ++ b ∷ []) more) ∙ short.next_cut d ((start ++ b ∷ []) ++ more)
        ∙ ap (r.next d) (append_assoc start (b ∷ []) more)

    said_cut : (d : D) (start more : List ℕ) (b : ℕ) → r.says d (take 81 (start ++ b ∷ []) ++ more) ≡ r.says d (start ++ b ∷ more)
    said_cut d start more b =
        sym (short.says_cut d (take 81 (start ++ b ∷ []) ++ more)) ∙ ap (r.says d) (cut_again 81 (start ++ b ∷ []) more) ∙ short.says_cut d ((start ++ b ∷ []) ++ more)
        ∙ ap (r.says d) (append_assoc start (b ∷ []) more)

    ends : (d : D) (start bytes : List ℕ) (n : ℕ) → take 81 start ≡ start → LineEnd bytes (Some n) →
        (fed r (midst d start) bytes ≡ fed r (after_line d (start ++ take n bytes)) (drop (suc n) bytes))
        × (said r (midst d start) bytes ≡ r.says d (start ++ take n bytes) ++ said r (after_line d (start ++ take n bytes)) (drop (suc n) bytes))
    unfolding after_line
    ends d start [] n kept at = absurd (omega (arith, at.0))
    ends d start (b ∷ bytes) zero kept at =
        let t = eq-eqb b 10 at.1 in
        let none = sym (append-nil start) in
        let m = midst d start in (
          ap (λ z. fed r z bytes) (byte_ends m b t) ∙ ap (λ l. fed r (midst (r.next d l) []) bytes) none,
          ap (λ l. l ++ said r (after_byte r m b) bytes) (said_ends m b t) ∙ ap (λ z. r.says d start ++ said r z bytes) (byte_ends m b t)
              ∙ ap (λ l. r.says d l ++ said r (midst (r.next d l) []) bytes) none,
        )
    ends d start (b ∷ bytes) (suc n) kept at =
        let t = ne_eqb b 10 (at.2 0 (omega arith)) in
        let m = midst d start in
        let more = take n bytes in
        let on = ends d (take 81 (start ++ b ∷ [])) bytes n (cut_twice 81 (start ++ b ∷ [])) (omega (arith, at.0), at.1, λ k lt. at.2 (suc k) (omega arith)) in (
          ap (λ z. fed r z bytes) (byte_goes_on m b t) ∙ on.0 ∙ ap (λ e. fed r (midst e []) (drop (suc n) bytes)) (line_cut d start more b),
          ap (λ l. l ++ said r (after_byte r m b) bytes) (said_goes_on m b t) ∙ ap (λ z. said r z bytes) (byte_goes_on m b t) ∙ on.1
              ∙ ap (λ l. l ++ said r (midst (r.next d (take 81 (start ++ b ∷ []) ++ more)) []) (drop (suc n) bytes)) (said_cut d start more b)
              ∙ ap (λ e. r.says d (start ++ b ∷ more) ++ said r (midst e []) (drop (suc n) bytes)) (line_cut d start more b),
        )

    pub line_ends : (d : D) (start bytes : List ℕ) (n : ℕ) → take 81 start ≡ start → LineEnd bytes (Some n) →
        (fed r (midst d start) bytes ≡ fed r (midst (r.next d (start ++ take n bytes)) []) (drop (n + 1) bytes))
        × (said r (midst d start) bytes ≡ r.says d (start ++ take n bytes) ++ said r (midst (r.next d (start ++ take n bytes)) []) (drop (n + 1) bytes))
    unfolding after_line
    line_ends d start bytes n kept at = rw (add-one n) (ends d start bytes n kept at)

-- Texts written to a report one after the other.
use Rattle.std.proofs.Common.{◌≡◌, ℕ, ◌+◌, ◌-◌, ◌≤◌, List, ◌++◌, length, take, drop, Ok, Result, sym, ap, subst, ◌∙◌, append_assoc, append-nil, length-append, length-drop, arith}
use borrow.Rule.Slice.PartMut.{put_mid}
use Rattle.std.proofs.Math.ListN.{drop_of_length-le}
use Rattle.std.proofs.Math.Seq.{take-append_seam, drop-append_seam}
use Rattle.std.proofs.lemmas.List.{drop-drop}
use Rattle.printing.specs.declared.refusal.PrintRefusal.{PrintRefusal}
use Rattle.printing.specs.Printing.{Prints, Outcome}
use Rattle.playback.specs.Reports.{Written}

-- an equal text is written too
pub written_as : (text other before after : List ℕ) (count : ℕ) → text ≡ other → Written text before count after → Written other before count after
written_as text other before after count is w = subst (λ l. Written l before count after) is w

-- what is printed is written
pub printed_is : (text before after : List ℕ) (r : Result ℕ PrintRefusal) (count : ℕ) → Prints text before after r → r ≡ Ok count → Written text before count after
printed_is text before after r count p ok =
    let o = subst (Outcome text before after) ok p.outcome in
    record { counts = o.1; writes = o.2 }

-- a second text behind the first
pub written_on : (first second before middle rest : List ℕ) (m n : ℕ) → Written first before m middle → Written second (drop m middle) n rest →
    Written (first ++ second) before (m + n) (take m middle ++ rest)
written_on first second before middle rest m n a b =
    let front : take m middle ≡ first = ap (λ k. take k middle) a.counts ∙ ap (take (length first)) a.writes ∙ take-append_seam first (drop m before) in
    let back : drop m middle ≡ drop m before = ap (λ k. drop k middle) a.counts ∙ ap (drop (length first)) a.writes ∙ drop-append_seam first (drop m before) in
    record {
      counts = omega (arith, a.counts, b.counts, length-append first second);
      writes =
          ap (λ l. l ++ rest) front ∙ ap (λ l. first ++ l) (b.writes ∙ ap (λ l. second ++ drop n l) back ∙ ap (λ l. second ++ l) (drop-drop n m before))
          ∙ sym (append_assoc first second (drop (m + n) before));
    }

-- a part of a list that reaches to its end, put back
pub put_end : (n : ℕ) (xs ys : List ℕ) → put_mid n (length xs - n) xs ys ≡ take n xs ++ ys
put_end n xs ys =
    ap (λ l. take n xs ++ (ys ++ l)) (drop_of_length-le (drop n xs) (omega (arith, length-drop n xs))) ∙ ap (λ l. take n xs ++ l) (append-nil ys)

-- what is written is in the report
pub written_within : (text before after : List ℕ) (count : ℕ) → Written text before count after → count ≤ length after
written_within text before after count w = omega (arith, w.counts, ap length w.writes, length-append text (drop count before))

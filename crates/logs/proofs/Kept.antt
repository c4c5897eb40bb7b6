-- A line that goes on: what is kept of it.
use Rattle.std.proofs.Common.{◌≡◌, ℕ, ◌+◌, ◌-◌, ◌≤◌, min, List, ◌++◌, length, take, sym, ap, ◌∙◌, arith}
use Rattle.std.proofs.Math.Seq.{take-append-add}
use borrow.Rule.Slice.PartMut.{put_mid}
use Rattle.std.proofs.lemmas.List.{take_min, length-take}
use Rattle.std.proofs.lemmas.Slice.{take-put_mid}

-- as many of ys as there is room for, after xs
joined : (xs ys : List ℕ) (room all : ℕ) → room + length xs ≡ all → xs ++ take (min room (length ys)) ys ≡ take all (xs ++ ys)
joined xs ys room all is =
    let full : length xs + room ≡ all = omega arith in
    ap (λ l. xs ++ l) (take_min room ys) ∙ sym (take-append-add xs ys room) ∙ ap (λ n. take n (xs ++ ys)) full

-- as many of more as fit, written after the first n characters
pub extended : (characters more written : List ℕ) (n m k : ℕ) → n ≤ 81 → length characters ≡ 81 → m ≡ min (length more) (81 - n) → written ≡ take m more →
    take (n + m) (put_mid n k characters written) ≡ take 81 (take n characters ++ more)
extended characters more written n m k few long is copied =
    let front : length (take n characters) ≡ n = length-take n characters ∙ omega arith in
    let count : length written ≡ m = ap length copied ∙ length-take m more ∙ omega arith in
    let some : m ≡ min (81 - n) (length more) = omega arith in
    take-put_mid n k characters written (n + m) (omega (arith, count)) (omega arith) ∙ ap (λ l. take n characters ++ l) (copied ∙ ap (λ i. take i more) some)
    ∙ joined (take n characters) more (81 - n) 81 (omega (arith, front))

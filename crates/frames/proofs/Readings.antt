-- What the tests of a line come to.
use Rattle.std.proofs.Common.{◌≡◌, ℕ, ◌<◌, ◌≤◌, true, false, List, ◌++◌, length, take, drop, is_some, Some, None, Ok, Err, Option, sym, refl, ap, ◌∙◌, subst, arith}
use Rattle.std.proofs.lemmas.List.{take_at}
use Rattle.std.proofs.lemmas.Bool.{le-leb, lt-leb, true≢false}
use Rattle.frames.specs.declared.refusal.LineRefusal.TheVariants.{NotHexadecimal, ShortBuffer}
use Rattle.frames.specs.Lines.{bytes_of, is_skipped, line_bytes, answer, written, Spells, Refusals}
use Rattle.frames.proofs.Digits.{length_pairs, none_from, spelt_is, spells_back}

some_from : {X : Type 0} (o : Option X) → is_some o ≡ true → (x : X) × (o ≡ Some x)
some_from None e = absurd (let z : ◌≡◌ {A = ℕ} 0 1 = cc in omega arith)
some_from (Some x) e = (x, refl)

-- a line that is kept, and no pairs of digits
pub misspelled : (line : List ℕ) (room : ℕ) → length line ≤ 80 → is_skipped line ≡ false → is_some (bytes_of line) ≡ false → line_bytes line room ≡ Err NotHexadecimal
misspelled line room short kept none =
    let a = le-leb (length line) 80 short in
    let b = none_from (bytes_of line) none in
    rw (a, kept, b) refl

-- a line that gives bytes, for which the buffer has no room
pub unroomed : (line : List ℕ) (room : ℕ) → length line ≤ 80 → is_skipped line ≡ false → is_some (bytes_of line) ≡ true → room < 64 → line_bytes line room ≡ Err ShortBuffer
unroomed line room short kept digits less =
    let a = le-leb (length line) 80 short in
    let b = (some_from (bytes_of line) digits).1 in
    let d = lt-leb 64 room less in
    rw (a, kept, b, d) refl

-- what is known of a line that gives bytes
module _ (line buffer : List ℕ) (short : length line ≤ 80) (kept : is_skipped line ≡ false) (digits : is_some (bytes_of line) ≡ true) (room : 64 ≤ length buffer) where
  pub spelling : List ℕ
  spelling = (some_from (bytes_of line) digits).0

  pub spells : bytes_of line ≡ Some spelling
  unfolding spelling
  spells = (some_from (bytes_of line) digits).1

  pub accepted : line_bytes line (length buffer) ≡ Ok (Some spelling)
  accepted =
      let a = le-leb (length line) 80 short in
      let b = le-leb 64 (length buffer) room in
      rw (a, kept, spells, b) refl

  pub answers : (count : ℕ) → count ≡ length spelling → Ok (Some count) ≡ answer (line_bytes line (length buffer))
  answers count is = ap (λ n. Ok (Some n)) is ∙ sym (ap answer accepted)

  pub writes : (after : List ℕ) → after ≡ spelling ++ drop (length spelling) buffer → after ≡ written (line_bytes line (length buffer)) buffer
  writes after is = is ∙ sym (ap (λ o. written o buffer) accepted)

  pub few : (count : ℕ) → count ≡ length spelling → count ≤ 40
  few count is = omega (arith, ap length (spelt_is line spelling spells), length_pairs line)

  pub refusals : (count : ℕ) → Refusals line (length buffer) (Ok (Some count))
  refusals count = record {
    too_long = (absurd, λ h. absurd (omega arith));
    not_digits = (absurd, λ h. absurd (let z : true ≡ false = sym digits ∙ h.2 in true≢false z));
    short_buffer = (absurd, λ h. absurd (omega (arith, h.3)));
  }

  pub spelled : (count : ℕ) (after : List ℕ) → count ≡ length spelling → after ≡ spelling ++ drop (length spelling) buffer → Spells line (take count after)
  spelled count after long is =
      let front : take count after ≡ spelling = ap (take count) is ∙ take_at spelling _ count (sym long) in
      subst (Spells line) (sym front) (record {
        back = spells_back line spelling spells;
        only = λ other same. sym (spells_back other spelling same) ∙ spells_back line spelling spells;
      })

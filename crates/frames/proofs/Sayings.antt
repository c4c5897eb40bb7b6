-- Every change whose numbers fit can be said by a frame.
use Rattle.std.proofs.Common.{◌≡◌, ℕ, ◌+◌, ◌*◌, ◌/◌, ◌%◌, ◌^◌, ◌<◌, List, [], ◌∷◌, Ok, refl, ap, ◌∙◌, arith, to_z-of_z, w32, to_z, of_z}
use Prim.Native.String.{String}
use mir.Facts.{Fits-of_z}
use Rattle.kinds.specs.Answers.{◌>>=◌}
use Rattle.std.specs.List.{AllByRecursion}
use Rattle.kinds.specs.Changes.{plain}
use Rattle.kinds.specs.declared.change.Change.{Change}
use Rattle.kinds.specs.declared.change.Change.TheVariants.{Keep, Add, Set, Mask}
use Rattle.kinds.specs.declared.side.Side.{Side}
use Rattle.kinds.specs.declared.side.Side.TheVariants.{Left, Right}
use Rattle.frames.specs.Edits.{change}
use Rattle.frames.specs.Frames.{letter, change_in, frame}
use Rattle.frames.specs.Laws.{Operand, Says, Sayable}

abbrev side_letter : Side → ℕ
side_letter Left = letter "L"
side_letter Right = letter "R"

abbrev Bytes : List ℕ → Type 0
Bytes xs = AllByRecursion (λ b. b < 256) xs

two_is : (n : ℕ) → n / 256 * 256 + n % 256 ≡ n
two_is n = omega arith

-- the four bytes of a number, most significant first
abbrev four : ℕ → List ℕ
four n = n / 16777216 ∷ n / 65536 % 256 ∷ n / 256 % 256 ∷ n % 256 ∷ []

four_bytes : (n : ℕ) → n < 2 ^ 32 → Bytes (four n)
four_bytes n h = (omega arith, (omega arith, (omega arith, (omega arith, tt))))

four_is : (n : ℕ) → n < 2 ^ 32 → n / 16777216 * 16777216 + n / 65536 % 256 * 65536 + n / 256 % 256 * 256 + n % 256 ≡ n
four_is n h = omega arith

module _ (at column : ℕ) (position : at < 65536) (narrow : column < 256) where
  -- the frame that says a change by a letter and the bytes of its operand
  abbrev spoken : Side → String → ℕ → ℕ → ℕ → ℕ → List ℕ
  spoken s l a b c d = side_letter s ∷ letter "C" ∷ at / 256 ∷ at % 256 ∷ column ∷ letter l ∷ a ∷ b ∷ c ∷ d ∷ []

  side_small : (s : Side) → side_letter s < 256
  side_small Left = omega arith
  side_small Right = omega arith

  module _ (e : Change) (l : String) (a b c d : ℕ) (small : letter l < 256) (operand : Bytes (a ∷ b ∷ c ∷ d ∷ [])) where
    read : (s : Side) → change_in (spoken s l a b c d) ≡ Ok e → frame (spoken s l a b c d) ≡ Ok (s, change at column (plain e))
    read Left is = ap (λ r. (r >>= λ f. Ok (change (at / 256 * 256 + at % 256) column (plain f))) >>= λ x. Ok (Left, x)) is ∙ ap (λ p. Ok (Left, change p column (plain e))) (two_is at)
    read Right is = ap (λ r. (r >>= λ f. Ok (change (at / 256 * 256 + at % 256) column (plain f))) >>= λ x. Ok (Right, x)) is ∙ ap (λ p. Ok (Right, change p column (plain e))) (two_is at)

    said : (s : Side) → change_in (spoken s l a b c d) ≡ Ok e → (bytes : List ℕ) × Says s at column (plain e) bytes
    said s is = (
      spoken s l a b c d,
      record {
        are_bytes = (side_small s, (omega arith, (omega arith, (omega arith, (narrow, (small, operand))))));
        read = read s is;
      },
    )

  pub sayable : (s : Side) (e : Change) → Operand e → (bytes : List ℕ) × Says s at column (plain e) bytes
  sayable s Keep h = said Keep "K" 0 0 0 0 (omega arith) (four_bytes 0 (omega arith)) s refl
  sayable s (Add d) h =
      let small = (Fits-of_z h).fits in
      said (Add d) "A" _ _ _ _ (omega arith) (four_bytes (of_z w32 d) small) s (ap (λ n. Ok (Add (to_z w32 n))) (four_is (of_z w32 d) small) ∙ ap (λ z. Ok (Add z)) (to_z-of_z h))
  sayable s (Set w) h = said (Set w) "S" _ _ _ _ (omega arith) (four_bytes w h) s (ap (λ n. Ok (Set n)) (four_is w h))
  sayable s (Mask m b) h =
      said (Mask m b) "F" (m / 256) (m % 256) (b / 256) (b % 256) (omega arith) (omega (arith, h), (omega arith, (omega (arith, h), (omega arith, tt)))) s (λ i. Ok (Mask (two_is m i) (two_is b i)))

pub all_sayable : Sayable
all_sayable s at column e position narrow h = sayable at column position narrow s e h

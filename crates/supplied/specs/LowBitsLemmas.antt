-- The link to the low bits of flags is lawful.
use Rattle.std.specs.Prelude.{◌≡◌, ℕ, ◌%◌, ◌^◌, ◌≤◌, Some, bit_and, bit_or, bit_xor, refl}
use Rattle.std.proofs.Common.{sym, ap, ap₂, ◌∙◌, inl, inr, mod-eq_of_lt, arith, pow_mono}
use mathlib.Core.HLevel.{is_prop→PathP}
use Rattle.std.proofs.Math.Bridge.{le_prop}
use Rattle.std.proofs.Math.Nat.{zero-mod}
use Rattle.std.proofs.lemmas.Nat.{pow_pos, mod_below, and_mod, or_mod, xor_mod}
use Rattle.kinds.specs.declared.kind.Letter.TheVariants.{Flags}
use Rattle.kinds.specs.declared.change.Change.TheVariants.{Mask}
use Rattle.kinds.specs.Changes.{plain}
use Rattle.kinds.specs.Kinds.{without, after}
use Rattle.kinds.proofs.Actions.{Action, flags, both, change, Small, mask_plain, after_mask}
use Rattle.kinds.proofs.Masks.{le_within}
use Rattle.supplied.specs.declared.low.Low.{Low}
use Rattle.links.specs.Laws.{Lawful}
use Rattle.links.specs.Translations.{Related}
use Rattle.supplied.specs.LowBits.{lowest, wide, narrow, low}
use Rattle.links.specs.TranslationsLemmas.{Translates, action_translates, memoryless_lawful}

pub low_same : (l m : Low) → l.kept ≡ m.kept → l.width ≡ m.width → l ≡ m
low_same l m p q = λ i. record {
  kept = p i;
  width = q i;
  some = is_prop→PathP (λ j. 1 ≤ p j) (λ j. le_prop) l.some m.some i;
  narrow = is_prop→PathP (λ j. p j ≤ q j) (λ j. le_prop) l.narrow m.narrow i;
  small = is_prop→PathP (λ j. q j ≤ 16) (λ j. le_prop) l.small m.small i;
}

-- the low bits of a write are a write of the low bits
put_low : (k v m s : ℕ) → bit_or (without v m) s % 2 ^ k ≡ bit_or (without (v % 2 ^ k) (m % 2 ^ k)) (s % 2 ^ k)
put_low k v m s = or_mod (without v m) s k ∙ ap (λ a. bit_or a (s % 2 ^ k)) (xor_mod v (bit_and v m) k ∙ ap (bit_xor (v % 2 ^ k)) (and_mod v m k))

low_action : ℕ → Action Flags → Action Flags
low_action k (flags m s) = flags (m % 2 ^ k) (s % 2 ^ k)

lowers : (l : Low) → Translates (wide l) (narrow l) (λ x y. y ≡ x % 2 ^ l.kept) (lowest l.kept)
unfolding low_action
lowers l = action_translates (wide l) (narrow l) (λ x y. y ≡ x % 2 ^ l.kept) (lowest l.kept) (low_action l.kept) refl turns small joins moves
  where
    turns : (a : Action Flags) → lowest l.kept (change a) ≡ change (low_action l.kept a)
    turns (flags m s) = elim (mask_plain m s) [
      | inl p ↦ ap (lowest l.kept) p.2 ∙ sym (ap₂ (λ a b. plain (Mask a b)) (ap (λ a. a % 2 ^ l.kept) p.0 ∙ zero-mod (2 ^ l.kept)) (ap (λ b. b % 2 ^ l.kept) p.1 ∙ zero-mod (2 ^ l.kept)))
      | inr p ↦ ap (lowest l.kept) p
    ]

    small : (a : Action Flags) → Small (wide l).limit a → Small (narrow l).limit (low_action l.kept a)
    small (flags m s) h = (omega (arith, mod_below m (2 ^ l.kept) (pow_pos l.kept)), sym (and_mod s m l.kept) ∙ ap (λ n. n % 2 ^ l.kept) h.1)

    joins : (a b : Action Flags) → low_action l.kept (both a b) ≡ both (low_action l.kept a) (low_action l.kept b)
    joins (flags m s) (flags o t) = ap₂ flags (or_mod m o l.kept) (put_low l.kept s o t)

    moves : (a : Action Flags) (x y v : ℕ) → Small (wide l).limit a → Related (wide l) (narrow l) (λ x y. y ≡ x % 2 ^ l.kept) x y → after (wide l).limit (change a) x ≡ Some v →
        (u : ℕ) × (after (narrow l).limit (change (low_action l.kept a)) y ≡ Some u) × (u ≡ v % 2 ^ l.kept)
    moves (flags m s) x y v h r p =
        let k = l.kept in
        let v_is : bit_or (without x m) s ≡ v = cc (sym (after_mask (wide l).limit m s x) ∙ p) in (
          bit_or (without y (m % 2 ^ k)) (s % 2 ^ k),
          after_mask (narrow l).limit (m % 2 ^ k) (s % 2 ^ k) y,
          ap (λ n. bit_or (without n (m % 2 ^ k)) (s % 2 ^ k)) r.2 ∙ sym (put_low k x m s) ∙ ap (λ n. n % 2 ^ k) v_is,
        )

raises : (l : Low) → Translates (narrow l) (wide l) (λ y x. y ≡ x % 2 ^ l.kept) (λ p. p)
raises l = action_translates (narrow l) (wide l) (λ y x. y ≡ x % 2 ^ l.kept) (λ p. p) (λ a. a) refl (λ a. refl) small (λ a b. refl) moves
  where
    small : (a : Action Flags) → Small (narrow l).limit a → Small (wide l).limit a
    small (flags m s) h = (omega (arith, pow_mono l.narrow, h.0), h.1)

    moves : (a : Action Flags) (y x v : ℕ) → Small (narrow l).limit a → Related (narrow l) (wide l) (λ y x. y ≡ x % 2 ^ l.kept) y x → after (narrow l).limit (change a) y ≡ Some v →
        (u : ℕ) × (after (wide l).limit (change a) x ≡ Some u) × (v ≡ u % 2 ^ l.kept)
    moves (flags m s) y x v h r p =
        let k = l.kept in
        let m_low : m % 2 ^ k ≡ m = mod-eq_of_lt (omega (arith, h.0, pow_pos k)) in
        let s_low : s % 2 ^ k ≡ s = mod-eq_of_lt (omega (arith, h.0, le_within s m h.1, pow_pos k)) in
        let v_is : v ≡ bit_or (without y m) s = cc (sym (after_mask (narrow l).limit m s y) ∙ p) in (
          bit_or (without x m) s,
          after_mask (wide l).limit m s x,
          v_is ∙ ap (λ n. bit_or (without n m) s) r.2 ∙ sym (put_low k x m s ∙ ap₂ (λ a b. bit_or (without (x % 2 ^ k) a) b) m_low s_low),
        )

pub low_lawful : Lawful low
low_lawful = memoryless_lawful wide narrow (λ l x y. y ≡ x % 2 ^ l.kept) (λ l. lowest l.kept) (λ l p. p) (λ l. sym (zero-mod (2 ^ l.kept))) lowers raises

-- Passing changes on in their plain form is lawful, for equal values of one kind.
use Rattle.std.specs.Prelude.{◌≡◌, ℕ, refl}
use Rattle.std.proofs.Common.{sym, ap, ◌∙◌, arith}
use Rattle.kinds.specs.declared.kind.Kind.{Kind}
use Rattle.kinds.specs.Kinds.{blank, apply}
use Rattle.links.specs.Laws.{Sends}
use Rattle.links.specs.Translations.{translated}
use Rattle.links.specs.TranslationsLemmas.{Translates, translation_sends}

pub same_translates : (k : Kind) (relation : ℕ → ℕ → Type 0) → ((x y : ℕ) → relation x y → x ≡ y) → ((x : ℕ) → relation x x) → Translates k k relation (λ p. p)
same_translates k relation equal reflexive = record {
  keeps = refl;
  fits = λ p e h. (e, h);
  moves = λ p x y v e r h. (v, sym (ap (apply k p) (equal x y r.2)) ∙ h, reflexive v);
  folds = λ p q a b e f h i l r. cc (l, r);
}

-- the link between two blank kinds
pub blank_sends : {S : Type 0} (fresh : S → S) → Sends (record { near = λ (s : S). blank; far = λ s. blank; fresh = fresh; agrees = λ s x y. (x ≡ 0) × (y ≡ 0); carry = λ s. translated blank (λ p. p) s })
blank_sends {S} fresh =
    translation_sends (λ (s : S). blank) (λ s. blank) fresh (λ s x y. (x ≡ 0) × (y ≡ 0)) (λ s x y. x ≡ y) (λ s p. p)
    (λ s x y a. (omega arith, omega arith, omega arith)) (λ s x y a. (omega arith, omega arith)) (λ s. same_translates blank (λ x y. x ≡ y) (λ x y e. e) (λ x. refl))

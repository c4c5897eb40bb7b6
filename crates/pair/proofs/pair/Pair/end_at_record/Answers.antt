use Rattle.std.proofs.Common.{◌≡◌, ℕ, ◌+◌, ◌<◌, ◌≤◌, length, sym, refl, ap, ◌∙◌, arith}
use Rattle.std.specs.List.{remove}
use Rattle.slots.specs.Slots.{items}
use Rattle.documents.specs.Documents.{line_of, place_for}
use Rattle.documents.proofs.Finding.{place_is_line, place_without, line_removed, line_removed_past}
use Rattle.pair.specs.Places.{EndsAt}
use Rattle.pair.specs.State.{state}
use Rattle.pair.specs.declared.pair.Pair.{Pair}
use Rattle.pair.specs.declared.pair.places.Place.{Place}
use Rattle.pair.specs.Places.{StandsAt}
use Rattle.pair.proofs.pair.Pair.end_at_record.Goals as goal

module _ {R : Type 0} (s : Pair R) (from : Place) (k : ℕ) (st : StandsAt from (state s)) where
  -- past the record at the place, each record is one line higher once that one is gone
  one_less : (n m : ℕ) → from.number ≤ k → n ≡ k + 1 → m ≡ line_of n (state s).lines → line_of k (remove (state s).lines from.line) + 1 ≡ m
  one_less n m le i e = line_removed_past (state s).lines from.line k st.line (omega (arith, st.number)) ∙ ap (λ j. line_of j (state s).lines) (sym i) ∙ sym e

  -- the line of record k then is where the record at the place ends
  ends : (q : ℕ) → k < length (items s.records) → q ≡ line_of k (remove (state s).lines from.line) →
      record { ends : EndsAt from (record { line = q; number = k }) (state s); line : q ≡ place_for k (remove (state s).lines from.line); number : k ≡ k }
  ends q lt e =
      let v = e ∙ sym (place_is_line (remove (state s).lines from.line) k) in
      let r = place_without (state s).lines from.line k q st.line (omega (arith, s.counted)) v in
      record { ends = record { within = r.0; number = r.1 }; line = v; number = refl }

pub returns-then-k-from : goal.returns-then-k-from
returns-then-k-from g c =
    let s = c.args.self.now in
    let st = c.requires.stands in
    ends s c.args.from c.args.k st _ c.requires.target (c.line_of-line.ensures.value ∙ sym (line_removed (state s).lines c.args.from.line c.args.k st.line (omega (arith, st.number))))

pub returns-else-k-from : goal.returns-else-k-from
returns-else-k-from g c =
    let s = c.args.self.now in
    let st = c.requires.stands in
    let h = one_less s c.args.from c.args.k st c.min.result c.line_of.result (omega arith) (omega (arith, c.requires.target)) c.line_of.ensures.value in
    ends s c.args.from c.args.k st _ c.requires.target (omega (arith, h))

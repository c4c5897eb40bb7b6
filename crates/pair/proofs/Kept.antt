-- What an edit of the three lists keeps, and the state that it makes.
use Rattle.std.proofs.Common.{◌≡◌, ℕ, ◌+◌, ◌<◌, ◌≤◌, false, ◌⊎◌, List, ◌∷◌, length, take, drop, set, Result, sym, refl, ap, ◌∙◌, subst, inl, inr, arith, length-set, get_or-set_same}
use lib.ListN.{length-map}
use Rattle.std.specs.List.{ContainsAt, AllByRecursion, insert, remove}
use Rattle.std.proofs.lemmas.List.Edits.{length-insert, length-remove}
use Rattle.std.proofs.ByRecursion.{All-weaker, all-has, all_has_itself, has_get_or, has_append_right}
use Rattle.slots.specs.declared.list.SlotList.{SlotList}
use Rattle.slots.specs.declared.refusal.Refusal.{Refusal}
use Rattle.slots.specs.Slots.{table, items, room, Among, Inserts, Sets, Removes, Moves}
use Rattle.slots.proofs.Slots.{all_among, sets_among, inserts_among, removes_among, moves_among, sets_surely, inserts_surely, removes_surely, moves_surely, moved_is as slots_moved_is}
use Rattle.documents.specs.declared.line.Line.{Line as StoredLine}
use Rattle.documents.specs.declared.line.Remark.{Remark as Noted}
use Rattle.documents.specs.declared.line.Line.TheVariants.{Record, Remark}
use Rattle.documents.specs.Documents.{Line, line, record_line, zeros, item, moved, records_of, records_before}
use Rattle.documents.specs.Across.{is_record}
use Rattle.documents.specs.Attempts.{State, holding}
use Rattle.documents.proofs.Places.{item_there, item_below, item_get_or, moved_is, length_moved, before_within, records_within, records_inserted, remark_inserted, records_removed, remark_removed, record_below, record_set, records_moved, remark_moved}
use Rattle.documents.proofs.Finding.{sheet_inserted, sheet_set, sheet_removed, sheet_moved, told_record, told_remark, before_removed_below, same_state}
use Rattle.pair.specs.declared.pair.Pair.{Pair}
use Rattle.pair.specs.declared.pair.places.Place.{Place}
use Rattle.pair.specs.Written.{text, written}
use Rattle.pair.specs.State.{state, SlotsFrom}
use Rattle.pair.specs.Places.{StandsAt, OpensAt, EndsAt}
use Rattle.pair.specs.Edits.{with_record, with_remark, with_rows, without_record, without_remark, moved_record, moved_remark}

-- a list that holds these items, with as much room as before, and in its slots nothing else that is new
record Holds {X : Type 0} (s t : SlotList X) (xs : List X) : Type 0 where
  items_are : items t ≡ xs
  same_room : room t ≡ room s
  slots_from : SlotsFrom s t

module _ {X : Type 0} (s t : SlotList X) where
  abbrev Known : X → Type 0
  Known x = ContainsAt (items t) x ⊎ ContainsAt (table s) x

  known_before : AllByRecursion Known (table s)
  known_before = All-weaker (ContainsAt (table s)) Known (λ x. inr) (table s) (all_has_itself (table s))

  -- where an item is put in
  from_new : (x : X) → ContainsAt (items t) x → Among (x ∷ table s) (table t) → SlotsFrom s t
  from_new x new among y = all-has Known (table t) y (all_among Known (x ∷ table s) (table t) among (inl new, known_before))

  from_slots : Among (table s) (table t) → SlotsFrom s t
  from_slots among y = all-has Known (table t) y (all_among Known (table s) (table t) among known_before)

  inserts_hold : {U : Type 0} (at : ℕ) (x : X) (r : Result U Refusal) → at ≤ length (items s) → length (items s) < room s → Inserts s at x r t → Holds s t (insert (items s) at x)
  inserts_hold at x r le lt h =
      let e = inserts_surely s t at x r le lt h in
      record {
        items_are = e.items_are;
        same_room = e.same_room;
        slots_from = from_new x (subst (λ xs. ContainsAt xs x) (sym e.items_are) (has_append_right (take at (items s)) (x ∷ drop at (items s)) x (all_has_itself (x ∷ drop at (items s))).0)) (inserts_among s t at x r h);
      }

  sets_hold : {U : Type 0} (at : ℕ) (x : X) (r : Result U Refusal) → at < length (items s) → Sets s at x r t → Holds s t (set (items s) at x)
  sets_hold at x r lt h =
      let e = sets_surely s t at x r lt h in
      let there : ContainsAt (set (items s) at x) x = subst (ContainsAt (set (items s) at x)) (get_or-set_same (items s) at x x lt) (has_get_or (set (items s) at x) at x (omega (arith, length-set (items s) at x))) in
      record { items_are = e.items_are; same_room = e.same_room; slots_from = from_new x (subst (λ xs. ContainsAt xs x) (sym e.items_are) there) (sets_among s t at x r h) }

  removes_hold : (at : ℕ) (r : Result X Refusal) → at < length (items s) → Removes s at r t → Holds s t (remove (items s) at)
  removes_hold at r lt h =
      let e = removes_surely s t at r lt h in
      record { items_are = e.items_are; same_room = e.same_room; slots_from = from_slots (removes_among s t at r h) }

  moves_hold : {U : Type 0} (p q : ℕ) (r : Result U Refusal) → p < length (items s) → q < length (items s) → Moves s p q r t → Holds s t (moved (items s) p q)
  moves_hold p q r lp lq h =
      let x = item_there (items s) p lp in
      let k = moves_surely s t p q r lp lq h in
      record {
        items_are = k.items_are ∙ slots_moved_is (items s) p q x.0 lp ∙ ap (λ y. insert (remove (items s) p) q y) (item_get_or (items s) p x.0 x.0 x.1) ∙ sym (moved_is (items s) p q x.0 x.1);
        same_room = k.same_room;
        slots_from = from_slots (moves_among s t p q r h);
      }

held : {X : Type 0} (s : SlotList X) → Holds s s (items s)
held s = record { items_are = refl; same_room = refl; slots_from = λ x. inr }

-- The pair s with other lists: what it keeps, the state that it is then in, and where its row links come from.
pub record Edited {R : Type 0} (s : Pair R) (ls : SlotList StoredLine) (rs : SlotList (List ℕ)) (ks : SlotList R) (d : State R) : Type 0 where
  pub kept : record {
    counted : length (records_of (written (items ls))) ≡ length (items rs);
    linked : length (items ks) ≡ length (items rs);
    roomy : (s.size ≤ room ls) × (s.size ≤ room rs) × (s.size ≤ room ks);
  }
  pub results : record {
    makes : ◌≡◌ {A = State R} (record { size = s.size; blank = s.blank; lines = written (items ls); records = items rs; links = items ks }) d;
    links_from : SlotsFrom s.links ks;
  }

-- a record that stands in the pair is in each of its lists
module _ {R : Type 0} (s : Pair R) (at : Place) (st : StandsAt at (state s)) where
  line_below : at.line < length (items s.lines)
  line_below = let x = told_record (state s).lines at.line st.line in omega (arith, item_below (state s).lines at.line (record_line x.0) x.1, length-map (items s.lines) line)

  pub number_below : at.number < length (items s.records)
  number_below = let x = told_record (state s).lines at.line st.line in omega (arith, record_below (state s).lines at.line x.0 x.1, st.number, s.counted)

  link_below : at.number < length (items s.links)
  link_below = omega (arith, number_below, s.linked)

module _ {R : Type 0} (s : Pair R) (ls : SlotList StoredLine) (rs : SlotList (List ℕ)) (ks : SlotList R) where
  edited : (xs : List StoredLine) (lines : List Line) (ys : List (List ℕ)) (zs : List R) → Holds s.lines ls xs → Holds s.records rs ys → Holds s.links ks zs →
      written xs ≡ lines → length (records_of lines) ≡ length ys → length zs ≡ length ys → Edited s ls rs ks (holding (state s) lines ys zs)
  edited xs lines ys zs hl hr hk is e f =
      let at : written (items ls) ≡ lines = ap written hl.items_are ∙ is in
      record {
        kept = record {
          counted = ap (λ v. length (records_of v)) at ∙ e ∙ sym (ap length hr.items_are);
          linked = ap length hk.items_are ∙ f ∙ sym (ap length hr.items_are);
          roomy = (omega (arith, hl.same_room, s.roomy.0), omega (arith, hr.same_room, s.roomy.1), omega (arith, hk.same_room, s.roomy.2));
        };
        results = record { makes = same_state _ _ refl refl at hr.items_are hk.items_are; links_from = hk.slots_from };
      }

  pub added : {U V W : Type 0} (at : Place) (a : Result U Refusal) (b : Result V Refusal) (c : Result W Refusal) → OpensAt at (state s) → length (state s).lines < s.size →
      Inserts s.lines at.line (Record zeros) a ls → Inserts s.records at.number zeros b rs → Inserts s.links at.number s.blank c ks → Edited s ls rs ks (with_record at (state s))
  added at a b c o lt f g h =
      let xs = items s.lines in
      let n = length-map xs line in
      let few = records_within (written xs) in
      let le : at.number ≤ length (items s.records) = omega (arith, before_within (written xs) at.line, s.counted) in
      let long = length-insert (records_of (written xs)) (records_before at.line (written xs)) zeros (before_within (written xs) at.line) in
      edited (insert xs at.line (Record zeros)) _ _ _
      (inserts_hold s.lines ls at.line _ a (omega arith) (omega (arith, s.roomy.0)) f)
      (inserts_hold s.records rs at.number _ b le (omega (arith, s.roomy.1, s.counted)) g)
      (inserts_hold s.links ks at.number _ c (omega (arith, s.linked)) (omega (arith, s.roomy.2, s.counted, s.linked)) h)
      (sheet_inserted xs at.line (Record zeros))
      (ap length (records_inserted (written xs) at.line zeros) ∙ long ∙ ap (λ n. n + 1) s.counted ∙ sym (length-insert (items s.records) at.number zeros le))
      (length-insert (items s.links) at.number s.blank (omega (arith, s.linked)) ∙ ap (λ n. n + 1) s.linked ∙ sym (length-insert (items s.records) at.number zeros le))

  module _ (at : Place) (st : StandsAt at (state s)) where
    pub put_in_place : {U V W : Type 0} (x y : List ℕ) (z : R) (a : Result U Refusal) (b : Result V Refusal) (c : Result W Refusal) →
        Sets s.lines at.line (Record x) a ls → Sets s.records at.number y b rs → Sets s.links at.number z c ks → Edited s ls rs ks (with_rows at x y z (state s))
    put_in_place x y z a b c f g h =
        let xs = items s.lines in
        let r = told_record (written xs) at.line st.line in
        edited (set xs at.line (Record x)) _ _ _
        (sets_hold s.lines ls at.line _ a (line_below s at st) f) (sets_hold s.records rs at.number _ b (number_below s at st) g) (sets_hold s.links ks at.number _ c (link_below s at st) h)
        (sheet_set xs at.line (Record x))
        (ap length (record_set (written xs) at.line r.0 x r.1) ∙ length-set (records_of (written xs)) (records_before at.line (written xs)) x ∙ s.counted ∙ sym (length-set (items s.records) at.number y))
        (length-set (items s.links) at.number z ∙ s.linked ∙ sym (length-set (items s.records) at.number y))

    pub taken_out : (u : Result StoredLine Refusal) (v : Result (List ℕ) Refusal) (w : Result R Refusal) →
        Removes s.lines at.line u ls → Removes s.records at.number v rs → Removes s.links at.number w ks → Edited s ls rs ks (without_record at (state s))
    taken_out u v w f g h =
        let xs = items s.lines in
        let r = told_record (written xs) at.line st.line in
        let gone = ap length (records_removed (written xs) at.line r.0 r.1) in
        let a = length-remove (records_of (written xs)) (records_before at.line (written xs)) (record_below (written xs) at.line r.0 r.1) in
        let b = length-remove (items s.records) at.number (number_below s at st) in
        let d = length-remove (items s.links) at.number (link_below s at st) in
        edited (remove xs at.line) _ _ _
        (removes_hold s.lines ls at.line u (line_below s at st) f) (removes_hold s.records rs at.number v (number_below s at st) g) (removes_hold s.links ks at.number w (link_below s at st) h)
        (sheet_removed xs at.line) (omega (arith, s.counted)) (omega (arith, s.linked))

    pub shifted : {U V W : Type 0} (to : Place) (u : Result U Refusal) (v : Result V Refusal) (w : Result W Refusal) → EndsAt at to (state s) →
        Moves s.lines at.line to.line u ls → Moves s.records at.number to.number v rs → Moves s.links at.number to.number w ks → Edited s ls rs ks (moved_record at to (state s))
    shifted to u v w en f g h =
        let xs = items s.lines in
        let x = told_record (written xs) at.line st.line in
        let below = before_removed_below (written xs) at.line to.line st.line in
        let n : to.number < length (items s.records) = omega (arith, s.counted, en.number) in
        let k : to.number < length (items s.links) = omega (arith, s.linked) in
        let long = length_moved (records_of (written xs)) (records_before at.line (written xs)) (records_before to.line (remove (written xs) at.line)) (record_below (written xs) at.line x.0 x.1) below in
        edited (moved xs at.line to.line) _ _ _
        (moves_hold s.lines ls at.line to.line u (line_below s at st) (omega (arith, en.within, length-map xs line)) f) (moves_hold s.records rs at.number to.number v (number_below s at st) n g) (moves_hold s.links ks at.number to.number w (link_below s at st) k h)
        (sheet_moved xs at.line to.line (line_below s at st))
        (ap length (records_moved (written xs) at.line to.line x.0 x.1) ∙ long ∙ s.counted ∙ sym (length_moved (items s.records) at.number to.number (number_below s at st) n))
        (length_moved (items s.links) at.number to.number (link_below s at st) k ∙ s.linked ∙ sym (length_moved (items s.records) at.number to.number (number_below s at st) n))

-- ---- edits of a remark

module _ {R : Type 0} (s : Pair R) (ls : SlotList StoredLine) where
  -- an edit of the lines that leaves the records as they are
  lines_edited : (xs : List StoredLine) (lines : List Line) → Holds s.lines ls xs → written xs ≡ lines → records_of lines ≡ records_of (written (items s.lines)) →
      Edited s ls s.records s.links (holding (state s) lines (items s.records) (items s.links))
  lines_edited xs lines h is e = edited s ls s.records s.links xs lines _ _ h (held s.records) (held s.links) is (ap length e ∙ s.counted) s.linked

  pub noted : {U : Type 0} (p : ℕ) (m : Noted) (u : Result U Refusal) → p ≤ length (state s).lines → length (state s).lines < s.size →
      Inserts s.lines p (Remark m) u ls → Edited s ls s.records s.links (with_remark p (text m) (state s))
  noted p m u le lt f =
      let xs = items s.lines in
      let n = length-map xs line in
      lines_edited (insert xs p (Remark m)) _ (inserts_hold s.lines ls p _ u (omega arith) (omega (arith, s.roomy.0)) f) (sheet_inserted xs p (Remark m)) (remark_inserted (written xs) p (text m))

  module _ (p : ℕ) (lt : p < length (state s).lines) (is : is_record (item (state s).lines p) ≡ false) where
    remark_below : p < length (items s.lines)
    remark_below = omega (arith, length-map (items s.lines) line)

    pub dropped : (u : Result StoredLine Refusal) → Removes s.lines p u ls → Edited s ls s.records s.links (without_remark p (state s))
    dropped u f =
        let xs = items s.lines in
        let t = told_remark (written xs) p lt is in
        lines_edited (remove xs p) _ (removes_hold s.lines ls p u remark_below f) (sheet_removed xs p) (remark_removed (written xs) p t.0 t.1)

    pub shifted_remark : {U : Type 0} (q : ℕ) (u : Result U Refusal) → q < length (state s).lines → Moves s.lines p q u ls → Edited s ls s.records s.links (moved_remark p q (state s))
    shifted_remark q u lq f =
        let xs = items s.lines in
        let t = told_remark (written xs) p lt is in
        lines_edited (moved xs p q) _ (moves_hold s.lines ls p q u remark_below (omega (arith, length-map xs line)) f) (sheet_moved xs p q remark_below) (remark_moved (written xs) p q t.0 t.1)

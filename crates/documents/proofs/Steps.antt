-- Every edit that fits its own document is taken, and keeps the pair sound.
use Rattle.std.proofs.Common.{◌≡◌, ℕ, ◌+◌, ◌<◌, ◌≤◌, true, false, cond, eqb, ltb, List, length, get_or, set, Some, Ok, sym, refl, ap, ◌∙◌, subst, ⊎_elim, arith}
use Rattle.std.specs.List.{insert as inserted, remove}
use Rattle.std.proofs.lemmas.List.{set-get_or}
use Rattle.std.proofs.lemmas.List.Edits.{length-insert, length-remove}
use Rattle.std.proofs.lemmas.Bool.{ltb-true, eqb-true, cases_Bool}
use Rattle.kinds.specs.Answers.{test}
use Rattle.kinds.specs.Kinds.{apply}
use Rattle.kinds.specs.declared.kind.Kind.{Kind}
use Rattle.kinds.specs.declared.change.Change.{Change}
use Rattle.kinds.specs.declared.change.Change.TheVariants.{Keep, Add, Set, Mask}
use Rattle.kinds.specs.declared.side.Side.{Side}
use Rattle.kinds.specs.declared.side.Side.TheVariants.{Left, Right}
use Rattle.links.specs.Laws.{sent}
use Rattle.links.specs.Columns.{Columns, across, LawfulRow}
use Rattle.frames.specs.Edits.{Edit, keep, insert, remark, delete, move, change}
use Rattle.documents.specs.declared.fault.Fault.{Fault}
use Rattle.documents.specs.Documents.{Line, record_line, remark_line, zeros, records_of, records_before, line_of, place_for, item, moved, Form, Item, form, Acts}
use Rattle.documents.specs.Across.{change_at, relinked, translated}
use Rattle.documents.specs.Attempts.{State, document, kinds, holding, with_own, room, position, given}
use Rattle.documents.specs.Promise.{Acted, Fits}
use Rattle.documents.proofs.Answers.{test_ok}
use Rattle.documents.proofs.Changes.{kept}
use Rattle.documents.proofs.Places.{item_below, item_there, set_item, moved_nowhere, records_inserted, remark_inserted, records_removed, remark_removed, record_below, records_moved, remark_moved, before_line_of, place_fits, at_line_of, before_within, length_moved}
use Rattle.documents.proofs.Three.{Three, three_inserted, three_removed, three_seen, three_lengths, three_moved}
use Rattle.documents.proofs.Edits.{acts_tried}
use Rattle.documents.proofs.Rows.{Matched, Carries, zeros_matched, carry_row}
use Rattle.documents.proofs.Sound.{Sound, Taken, own, At, placed, sound_placed, found, applies_at}

-- a change told to a document acts there as the change itself
told_acts : {X : Type 0} (F : Form X) (ks : ℕ → Kind) (p c : ℕ) (g : Change) (xs : List X) (y : List ℕ) (w : ℕ) →
    item xs p ≡ Some (F.of_row y) → F.row (F.of_row y) ≡ Some y → c < 4 → apply (ks c) g (get_or y c 0) ≡ Ok w →
    Acts F ks (change_at p c g) xs (set xs p (F.of_row (set y c w)))
told_acts F ks p c Keep xs y w i q small h =
    rw (kept (ks c) (get_or y c 0) w h, set-get_or y c 0) (set_item xs p (F.of_row y) i)
told_acts F ks p c (Add d) xs y w i q small h = (F.of_row y, y, w, i, q, small, h, refl)
told_acts F ks p c (Set n) xs y w i q small h = (F.of_row y, y, w, i, q, small, h, refl)
told_acts F ks p c (Mask m n) xs y w i q small h = (F.of_row y, y, w, i, q, small, h, refl)

-- a change leaves the row links where they are
pub relinked_change : {R : Type 0} (blank : R) (j c : ℕ) (g : Change) (links : List R) → relinked blank (change_at j c g) links ≡ links
relinked_change blank j c Keep links = refl
relinked_change blank j c (Add d) links = refl
relinked_change blank j c (Set w) links = refl
relinked_change blank j c (Mask m b) links = refl

-- a move to the same place moves nothing
pub relinked_move : {R : Type 0} (blank : R) (j k : ℕ) (links : List R) → j < length links → relinked blank (cond (eqb j k) keep (move j k)) links ≡ moved links j k
relinked_move {R} blank j k links h = ⊎_elim same apart (cases_Bool (eqb j k))
  where
    same : eqb j k ≡ true → relinked blank (cond (eqb j k) keep (move j k)) links ≡ moved links j k
    same t = let i = item_there links j h in rw t (rw (← eqb-true j k t) (sym (moved_nowhere links j i.0 i.1)))

    apart : eqb j k ≡ false → relinked blank (cond (eqb j k) keep (move j k)) links ≡ moved links j k
    apart t = rw t refl

move_there : {X : Type 0} (F : Form X) (ks : ℕ → Kind) (j k : ℕ) (xs : List X) → j < length xs → k < length xs →
    Acts F ks (cond (eqb j k) keep (move j k)) xs (moved xs j k)
move_there F ks j k xs h g = ⊎_elim same apart (cases_Bool (eqb j k))
  where
    same : eqb j k ≡ true → Acts F ks (cond (eqb j k) keep (move j k)) xs (moved xs j k)
    same t = let i = item_there xs j h in rw t (rw (← eqb-true j k t) (moved_nowhere xs j i.0 i.1))

    apart : eqb j k ≡ false → Acts F ks (cond (eqb j k) keep (move j k)) xs (moved xs j k)
    apart t = rw t (h, g, refl)

module _ {R : Type 0} (row : Columns R) (L : LawfulRow 4 row) where
  -- a change at a place, with its carried change
  pub change_across : (s : Side) (d : State R) (p j c : ℕ) (x y : List ℕ) (r r1 : R) (e g : Change) → At s d p j x y r → row.carry s c r e ≡ sent g r1 →
      translated row s d.blank d.lines d.links (change (own s p j) c e) ≡ Ok (change_at (own s j p) c g, set d.links j r1)
  change_across Left d p j c x y r r1 e g a h =
      let n = records_before p d.lines in
      let link : item d.links n ≡ Some r = ap (item d.links) a.before ∙ a.link in
      subst (λ o. translated row Left d.blank d.lines d.links (change p c e) ≡ Ok (change_at o c g, set d.links o r1)) a.before
      (rw (link, h) (ap (λ l. Ok (change_at n c g, l)) (relinked_change d.blank n c g (set d.links n r1))))
  change_across Right d p j c x y r r1 e g a h =
      subst (λ o. translated row Right d.blank d.lines d.links (change j c e) ≡ Ok (change_at o c g, set d.links j r1)) a.of (rw (a.link, h) refl)

  pub change_own : (s : Side) (d : State R) (p j c v w : ℕ) (x y : List ℕ) (r r1 : R) (e : Change) → At s d p j x y r → c < 4 →
      apply (kinds row s d c) e (get_or x c 0) ≡ Ok v → Acted row s (change (own s p j) c e) d (placed s d p j (set x c v) (set y c w) r1)
  change_own Left d p j c v w x y r r1 e a small h = (record_line x, x, v, a.line, refl, small, h, refl)
  change_own Right d p j c v w x y r r1 e a small h = (x, x, v, a.there, refl, small, h, refl)

  pub change_there : (s : Side) (d : State R) (p j c v w : ℕ) (x y : List ℕ) (r r1 : R) (g : Change) → At s d p j x y r → c < 4 →
      apply (kinds row (across s) d c) g (get_or y c 0) ≡ Ok w → Acted row (across s) (change_at (own s j p) c g) d (placed s d p j (set x c v) (set y c w) r1)
  change_there Left d p j c v w x y r r1 g a small h = told_acts (form Right) (kinds row Right d) j c g d.records y w a.there refl small h
  change_there Right d p j c v w x y r r1 g a small h = told_acts (form Left) (kinds row Left d) p c g d.lines y w a.line refl small h

  with_own_is : (s : Side) (d e : State R) → with_own s d (document s e) (document (across s) e) e.links ≡ holding d e.lines e.records e.links
  with_own_is Left d e = refl
  with_own_is Right d e = refl

  -- the answer, once each document's part is known
  pub given_is : (s : Side) (op t : Edit) (d e : State R) → e ≡ holding d e.lines e.records e.links → Acted row s op d e → room op d ≡ Ok tt →
      translated row s d.blank d.lines d.links op ≡ Ok (t, e.links) → Acted row (across s) t d e → given row s op d ≡ Ok (t, e)
  given_is s op t d e same a r x b =
      rw (acts_tried (form s) (kinds row s d) (λ p. p) op (document s d) (document s e) a, r, x, acts_tried (form (across s)) (kinds row (across s) d) (λ _. position op) t (document (across s) d) (document (across s) e) b)
      (ap (λ q. Ok (t, q)) (with_own_is s d e ∙ sym same))

  remade : (d : State R) (ls : List Line) (rs : List (List ℕ)) (ks : List R) → Sound row d → length ls ≤ d.size →
      Three (Matched row Left d.blank) (records_of ls) rs ks → Sound row (holding d ls rs ks)
  remade d ls rs ks S h T = record { rows = T; blank_is = S.blank_is; within = h }

  roomy : (d : State R) (f : Fault) → test (ltb (length d.lines) d.size) f ≡ Ok tt → length d.lines < d.size
  roomy d f m = ltb-true _ _ (test_ok _ f tt m)

  counts : (d : State R) → Sound row d → length (records_of d.lines) ≡ length d.records
  counts d S = (three_lengths (Matched row Left d.blank) (records_of d.lines) d.records d.links S.rows).0

  link_counts : (d : State R) → Sound row d → length d.links ≡ length d.records
  link_counts d S = (three_lengths (Matched row Left d.blank) (records_of d.lines) d.records d.links S.rows).1

  -- a record of zeros, as line p and record j
  insert_sound : (d : State R) (p j : ℕ) → Sound row d → length d.lines < d.size → p ≤ length d.lines → records_before p d.lines ≡ j →
      Sound row (holding d (inserted d.lines p (record_line zeros)) (inserted d.records j zeros) (inserted d.links j d.blank))
  insert_sound d p j S m h b =
      remade d _ _ _ S (rw (length-insert d.lines p (record_line zeros) h) (omega arith))
      (rw (records_inserted d.lines p zeros, b)
      (three_inserted (Matched row Left d.blank) (records_of d.lines) d.records d.links j zeros zeros d.blank S.rows (zeros_matched row L d.blank S.blank_is)))

  delete_sound : (d : State R) (p j : ℕ) (x : List ℕ) → Sound row d → item d.lines p ≡ Some (record_line x) → records_before p d.lines ≡ j →
      Sound row (holding d (remove d.lines p) (remove d.records j) (remove d.links j))
  delete_sound d p j x S i b =
      remade d _ _ _ S (omega (arith, S.within, length-remove d.lines p (item_below _ _ _ i)))
      (rw (records_removed d.lines p x i, b) (three_removed (Matched row Left d.blank) (records_of d.lines) d.records d.links j S.rows))

  move_sound : (d : State R) (p q j k : ℕ) (x : List ℕ) → Sound row d → item d.lines p ≡ Some (record_line x) → q < length d.lines →
      records_before p d.lines ≡ j → records_before q (remove d.lines p) ≡ k →
      Sound row (holding d (moved d.lines p q) (moved d.records j k) (moved d.links j k))
  move_sound d p q j k x S i h b g =
      remade d _ _ _ S (rw (length_moved d.lines p q (item_below _ _ _ i) h) S.within)
      (rw (records_moved d.lines p q x i, b, g)
      (three_moved (Matched row Left d.blank) (records_of d.lines) d.records d.links j k S.rows (rw b at (record_below d.lines p x i))))

  -- only the remarks change
  remark_sound : (d : State R) (ls : List Line) → Sound row d → length ls ≤ d.size → records_of ls ≡ records_of d.lines → Sound row (holding d ls d.records d.links)
  remark_sound d ls S h e = remade d ls _ _ S h (rw e S.rows)

  -- what is left without one record has one record less
  rest_count : (d : State R) (p : ℕ) (x : List ℕ) → Sound row d → item d.lines p ≡ Some (record_line x) → length (records_of (remove d.lines p)) + 1 ≡ length d.records
  rest_count d p x S i = rw (records_removed d.lines p x i) (length-remove (records_of d.lines) (records_before p d.lines) (record_below d.lines p x i) ∙ counts d S)

  rest_below : (d : State R) (p q : ℕ) (x : List ℕ) → Sound row d → item d.lines p ≡ Some (record_line x) → records_before q (remove d.lines p) < length d.records
  rest_below d p q x S i = omega (arith, before_within (remove d.lines p) q, rest_count d p x S i)

  changed_at : (s : Side) (d : State R) (p j c v : ℕ) (x y : List ℕ) (r : R) (f : Change) → Sound row d → At s d p j x y r → Matched row s d.blank x y r → c < 4 →
      apply (kinds row s d c) f (get_or x c 0) ≡ Ok v → Carries row s d.blank x y r c v f → Taken row s (change (own s p j) c f) d
  changed_at s d p j c v x y r f S a m small h g = record {
    e = placed s d p j (set x c v) (set y c g.w) g.r1;
    t = change_at (own s j p) c g.g;
    framed = refl;
    here = change_own s d p j c v g.w x y r g.r1 f a small h;
    told_as = change_across s d p j c x y r g.r1 f g.g a g.sent_is;
    there = change_there s d p j c v g.w x y r g.r1 g.g a small g.applies;
    sound = sound_placed row s d p j x y (set x c v) (set y c g.w) r g.r1 S a g.matched;
  }

  changed : (s : Side) (p c : ℕ) (f : Change) (d : State R) (xs : List (Item s)) → Sound row d → Acts (form s) (kinds row s d) (change p c f) (document s d) xs → Taken row s (change p c f) d
  changed s p c f d xs S a =
      let z = found row s d p c f xs S a in
      let b = applies_at row s d z.line z.number c z.x z.y z.r f xs z.here (rw z.asked at a) in
      rw z.asked (changed_at s d z.line z.number c b.0 z.x z.y z.r f S z.here z.matched b.1 b.2 (carry_row row L s d.blank z.x z.y z.r c b.0 f z.matched b.1 b.2))

  pub step : (s : Side) (op : Edit) (d : State R) → Sound row d → Fits row s op d → room op d ≡ Ok tt → Taken row s op d
  step Left keep d S a m = record { e = d; t = keep; framed = refl; here = refl; told_as = refl; there = refl; sound = S }
  step Left (insert p) d S a m = let j = records_before p d.lines in record {
    e = holding d (inserted d.lines p (record_line zeros)) (inserted d.records j zeros) (inserted d.links j d.blank);
    t = insert j;
    framed = refl;
    here = (a.1.0, refl);
    told_as = refl;
    there = (omega (arith, before_within d.lines p, counts d S), refl);
    sound = insert_sound d p j S (roomy d _ m) a.1.0 refl;
  }
  step Left (remark p t) d S a m = record {
    e = holding d (inserted d.lines p (remark_line t)) d.records d.links;
    t = keep;
    framed = refl;
    here = (remark_line t, refl, a.1.2, refl);
    told_as = refl;
    there = refl;
    sound = remark_sound d _ S (omega (arith, roomy d _ m, length-insert d.lines p (remark_line t) a.1.2)) (remark_inserted d.lines p t);
  }
  step Left (delete p) d S a m = let i = item_there d.lines p a.1.0 in by_line i.0 i.1
    where
      by_line : (l : Line) → item d.lines p ≡ Some l → Taken row Left (delete p) d
      by_line (record_line x) i = let j = records_before p d.lines in record {
        e = holding d (remove d.lines p) (remove d.records j) (remove d.links j);
        t = delete j;
        framed = refl;
        here = (a.1.0, refl);
        told_as = rw i refl;
        there = (rw (counts d S) at (record_below d.lines p x i), refl);
        sound = delete_sound d p j x S i refl;
      }
      by_line (remark_line t) i = record {
        e = holding d (remove d.lines p) d.records d.links;
        t = keep;
        framed = refl;
        here = (a.1.0, refl);
        told_as = rw i refl;
        there = refl;
        sound = remark_sound d _ S (omega (arith, S.within, length-remove d.lines p a.1.0)) (remark_removed d.lines p t i);
      }
  step Left (move p q) d S a m = let i = item_there d.lines p a.1.0 in by_line i.0 i.1
    where
      by_line : (l : Line) → item d.lines p ≡ Some l → Taken row Left (move p q) d
      by_line (record_line x) i =
          let j = records_before p d.lines in
          let k = records_before q (remove d.lines p) in
          let below : j < length d.records = rw (counts d S) at (record_below d.lines p x i) in
          record {
            e = holding d (moved d.lines p q) (moved d.records j k) (moved d.links j k);
            t = cond (eqb j k) keep (move j k);
            framed = refl;
            here = (a.1.0, a.1.1, refl);
            told_as = rw i (ap (λ l. Ok (cond (eqb j k) keep (move j k), l)) (relinked_move d.blank j k d.links (omega (arith, below, link_counts d S))));
            there = move_there (form Right) (kinds row Right d) j k d.records below (rest_below d p q x S i);
            sound = move_sound d p q j k x S i a.1.1 refl refl;
          }
      by_line (remark_line t) i = record {
        e = holding d (moved d.lines p q) d.records d.links;
        t = keep;
        framed = refl;
        here = (a.1.0, a.1.1, refl);
        told_as = rw i refl;
        there = refl;
        sound = remark_sound d _ S (rw (length_moved d.lines p q a.1.0 a.1.1) S.within) (remark_moved d.lines p q t i);
      }
  step Left (change p c e) d S a m = changed Left p c e d a.0 S a.1
  step Right keep d S a m = record { e = d; t = keep; framed = refl; here = refl; told_as = refl; there = refl; sound = S }
  step Right (insert j) d S a m =
      let p = place_for j d.lines in
      let q = place_fits d.lines j (omega (arith, a.1.0, counts d S)) in
      record {
        e = holding d (inserted d.lines p (record_line zeros)) (inserted d.records j zeros) (inserted d.links j d.blank);
        t = insert p;
        framed = refl;
        here = (a.1.0, refl);
        told_as = refl;
        there = (q.0, refl);
        sound = insert_sound d p j S (roomy d _ m) q.0 q.1;
      }
  step Right (remark p t) d S a m = let z : ◌≡◌ {A = ℕ} 0 1 = cc a.1.1 in absurd (omega arith)
  step Right (delete j) d S a m =
      let p = line_of j d.lines in
      let x = item_there (records_of d.lines) j (rw (counts d S) a.1.0) in
      let i = at_line_of d.lines j x.0 x.1 in
      record {
        e = holding d (remove d.lines p) (remove d.records j) (remove d.links j);
        t = delete p;
        framed = refl;
        here = (a.1.0, refl);
        told_as = refl;
        there = (item_below _ _ _ i, refl);
        sound = delete_sound d p j x.0 S i (before_line_of d.lines j (omega (arith, a.1.0, counts d S)));
      }
  step Right (move j k) d S a m = ⊎_elim same apart (cases_Bool (eqb j k))
    where
      same : eqb j k ≡ true → Taken row Right (move j k) d
      same t =
          let z = three_seen (Matched row Left d.blank) (records_of d.lines) d.records d.links j S.rows (rw (counts d S) a.1.0) in
          let still : moved d.records j k ≡ d.records = rw (← eqb-true j k t) (moved_nowhere d.records j z.y z.y_is) in
          let linked : moved d.links j k ≡ d.links = rw (← eqb-true j k t) (moved_nowhere d.links j z.z z.z_is) in
          record {
            e = d;
            t = keep;
            framed = refl;
            here = (a.1.0, a.1.1, sym still);
            told_as = rw (t, linked) refl;
            there = refl;
            sound = S;
          }

      apart : eqb j k ≡ false → Taken row Right (move j k) d
      apart t =
          let p = line_of j d.lines in
          let q = place_for k (remove d.lines p) in
          let x = item_there (records_of d.lines) j (rw (counts d S) a.1.0) in
          let i = at_line_of d.lines j x.0 x.1 in
          let l : p < length d.lines = item_below d.lines p (record_line x.0) i in
          let f = place_fits (remove d.lines p) k (omega (arith, a.1.1, rest_count d p x.0 S i)) in
          let u : q < length d.lines = omega (arith, f.0, length-remove d.lines p l) in
          record {
            e = holding d (moved d.lines p q) (moved d.records j k) (moved d.links j k);
            t = move p q;
            framed = refl;
            here = (a.1.0, a.1.1, refl);
            told_as = rw t refl;
            there = (l, u, refl);
            sound = move_sound d p q j k x.0 S i u (before_line_of d.lines j (omega (arith, a.1.0, counts d S))) f.1;
          }
  step Right (change j c e) d S a m = changed Right j c e d a.0 S a.1

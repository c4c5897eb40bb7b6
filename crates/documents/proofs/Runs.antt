-- Over every list of attempts: the pair stays sound, refuses what it should, and takes folds.
use Rattle.std.proofs.Common.{◌≡◌, ℕ, zero, suc, ◌<◌, ◌≤◌, ltb, ◌⊎◌, ◌↔◌, List, [], ◌∷◌, length, get_or, set, Some, Ok, Err, Result, sym, refl, ap, ◌∙◌, subst, inl, inr, ⊎_elim, arith, w8, Fits as FitsWidth}
use Rattle.std.proofs.lemmas.List.{set-set, get_or-set_same}
use Rattle.std.proofs.lemmas.Bool.{ltb-true, ltb-false, cases_Bool}
use Rattle.kinds.specs.Answers.{◌>>=◌}
use Rattle.kinds.specs.Changes.{plain}
use Rattle.kinds.specs.Kinds.{apply, fold}
use Rattle.kinds.specs.declared.change.Change.{Change}
use Rattle.kinds.specs.declared.side.Side.{Side}
use Rattle.kinds.specs.declared.side.Side.TheVariants.{Left, Right}
use Rattle.kinds.proofs.Folding.{folds_plain}
use Rattle.links.specs.Laws.{sent}
use Rattle.links.specs.Columns.{Columns, across, LawfulRow}
use Rattle.frames.specs.declared.frame.Operation.TheVariants.{Change as Alter}
use Rattle.frames.specs.Edits.{Edit, keep, insert, remark, delete, move, change}
use Rattle.frames.specs.Frames.{frame, byte}
use Rattle.frames.specs.Laws.{Says}
use Rattle.frames.proofs.Bounds.{sound}
use Rattle.frames.proofs.Sayings.{all_sayable}
use Rattle.documents.specs.declared.fault.Fault.{Fault}
use Rattle.documents.specs.declared.fault.Fault.TheVariants.{SheetFull}
use Rattle.documents.specs.Documents.{records_of, Item, form, Lengthens}
use Rattle.documents.specs.Across.{change_at}
use Rattle.documents.specs.Attempts.{State, opened, document, kinds, tried, room, given, read, attempt, state_then, after}
use Rattle.documents.specs.Promise.{Bytes, rows, value, Folds, Agreeing, Fits, Acting, Unfit, Replaced, Foldable, Stands, Promise}
use Rattle.documents.proofs.Answers.{never_ok, bind_ok, read_ok, same_ok}
use Rattle.documents.proofs.Changes.{operand}
use Rattle.documents.proofs.Places.{item_get_or}
use Rattle.documents.proofs.Three.{Seen, three_seen, three_lengths}
use Rattle.documents.proofs.Edits.{tried_acts, acts_tried}
use Rattle.documents.proofs.Rows.{Matched, Carries, RowFold, within_limits, carry_row, fold_row}
use Rattle.documents.proofs.Sound.{Sound, Taken, own, At, placed, at_placed, Found, found, applies_at}
use Rattle.documents.proofs.Steps.{given_is, step, change_across, change_own, change_there}

-- every byte of real bytes fits
bytes_fit : (bytes : List ℕ) → Bytes bytes → (k : ℕ) → FitsWidth w8 (byte bytes k)
bytes_fit [] a k = record { fits = omega arith }
bytes_fit (b ∷ bytes) a zero = record { fits = omega (arith, a.0) }
bytes_fit (b ∷ bytes) a (suc k) = bytes_fit bytes a.1 k

-- where real bytes say a change of a cell, other real bytes say any plain change of a kind there
sayable_there : (bytes : List ℕ) (s : Side) (p c : ℕ) (e f : Change) → Bytes bytes → frame bytes ≡ Ok (s, change p c e) →
    ((narrow : c < 256) → (p < 65536) → (more : List ℕ) × Says s p c (plain f) more) → plain f ≡ f → (more : List ℕ) × Says s p c f more
sayable_there bytes s p c e f a q say same =
    let h = sound bytes (Ok (record { side = s; operation = Alter p c e })) (bytes_fit bytes a) (sym q) in
    subst (λ o. (more : List ℕ) × Says s p c o more) same (say h.1 h.0)

-- a change accepted at a known place
pub record Done {R : Type 0} (row : Columns R) (s : Side) (d : State R) (p j c : ℕ) (x y : List ℕ) (r : R) (f : Change) (t : Edit) (e : State R) : Type 0 where
  pub v : ℕ
  pub small : c < 4
  pub applies : apply (kinds row s d c) f (get_or x c 0) ≡ Ok v
  pub carries : Carries row s d.blank x y r c v f
  pub t_is : t ≡ change_at (own s j p) c carries.g
  pub e_is : e ≡ placed s d p j (set x c v) (set y c carries.w) carries.r1

module _ {R : Type 0} (row : Columns R) (L : LawfulRow 4 row) where
  pub opened_sound : (size : ℕ) (pattern : R) → Sound row (opened row size pattern)
  opened_sound size pattern = record { rows = tt; blank_is = (L.each 0 (omega arith)).resets pattern; within = omega arith }

  -- ---- an accepted edit

  -- what an answer shows of the edit's own document
  pub done_fits : (s : Side) (op t : Edit) (d e : State R) → given row s op d ≡ Ok (t, e) → Fits row s op d × (room op d ≡ Ok tt)
  done_fits s op t d e h =
      let a = bind_ok (tried (form s) (kinds row s d) (λ p. p) op (document s d)) _ (t, e) h in
      let b = bind_ok (room op d) _ (t, e) a.2 in
      ((a.0, tried_acts (form s) (kinds row s d) (λ p. p) op (document s d) a.0 a.1), b.1)

  pub taken_done : (s : Side) (op : Edit) (d : State R) → room op d ≡ Ok tt → (T : Taken row s op d) → given row s op d ≡ Ok (T.t, T.e)
  taken_done s op d m T = given_is row L s op T.t d T.e T.framed T.here m T.told_as T.there

  pub taken : (s : Side) (op t : Edit) (d e : State R) → Sound row d → given row s op d ≡ Ok (t, e) → (T : Taken row s op d) × (t ≡ T.t) × (e ≡ T.e)
  taken s op t d e S h =
      let f = done_fits s op t d e h in
      let T = step row L s op d S f.0 f.1 in
      let q = taken_done s op d f.1 T in
      let r = same_ok _ t T.t e T.e h q in
      (T, r.0, r.1)

  taken_acting : (bytes : List ℕ) (s : Side) (op t : Edit) (d e : State R) (T : Taken row s op d) → frame bytes ≡ Ok (s, op) → t ≡ T.t → e ≡ T.e → Acting row bytes t d e
  taken_acting bytes s op t d e T says p q = rw (p, q) (record { side = s; edit = op; says = says; own = T.here; translation = T.told_as; other = T.there })

  -- ---- a refused edit

  own_verdict : (s : Side) (op : Edit) (d : State R) → Fits row s op d ⊎ ((Fits row s op d → ⊥) × (f : Fault) × (given row s op d ≡ Err f))
  own_verdict s op d = go (tried (form s) (kinds row s d) (λ p. p) op (document s d)) refl
    where
      go : (a : Result (List (Item s)) Fault) → tried (form s) (kinds row s d) (λ p. p) op (document s d) ≡ a → Fits row s op d ⊎ ((Fits row s op d → ⊥) × (f : Fault) × (given row s op d ≡ Err f))
      go (Ok xs) h = inl (xs, tried_acts (form s) (kinds row s d) (λ p. p) op (document s d) xs h)
      go (Err f) h = inr ((λ z. never_ok f _ (sym h ∙ acts_tried (form s) (kinds row s d) (λ p. p) op (document s d) z.0 z.1)), f, rw h refl)

  room_verdict : (op : Edit) (d : State R) → length d.lines ≤ d.size →
      ((room op d ≡ Ok tt) × (Lengthens op × (length d.lines ≡ d.size) → ⊥)) ⊎ ((f : Fault) × (room op d ≡ Err f) × (Lengthens op × (length d.lines ≡ d.size)))
  room_verdict keep d w = inl (refl, λ z. z.0)
  room_verdict (insert p) d w =
      ⊎_elim (λ t. inl (rw t refl, λ z. absurd (omega (arith, z.1, ltb-true _ _ t)))) (λ t. inr (SheetFull p, rw t refl, (tt, omega (arith, w, ltb-false _ _ t)))) (cases_Bool (ltb (length d.lines) d.size))
  room_verdict (remark p x) d w =
      ⊎_elim (λ t. inl (rw t refl, λ z. absurd (omega (arith, z.1, ltb-true _ _ t)))) (λ t. inr (SheetFull p, rw t refl, (tt, omega (arith, w, ltb-false _ _ t)))) (cases_Bool (ltb (length d.lines) d.size))
  room_verdict (delete p) d w = inl (refl, λ z. z.0)
  room_verdict (move p q) d w = inl (refl, λ z. z.0)
  room_verdict (change p c e) d w = inl (refl, λ z. z.0)

  full_refused : (s : Side) (op : Edit) (d : State R) (f : Fault) → Fits row s op d → room op d ≡ Err f → given row s op d ≡ Err f
  full_refused s op d f a m = rw (acts_tried (form s) (kinds row s d) (λ p. p) op (document s d) a.0 a.1, m) refl

  abbrev Refused : Side → Edit → State R → Type 0
  Refused s op d = ((f : Fault) × (given row s op d ≡ Err f)) × Unfit row s op d

  abbrev Accepted : Side → Edit → State R → Type 0
  Accepted s op d = ((T : Taken row s op d) × (given row s op d ≡ Ok (T.t, T.e))) × (Unfit row s op d → ⊥)

  pub verdict : (s : Side) (op : Edit) (d : State R) → Sound row d → Refused s op d ⊎ Accepted s op d
  verdict s op d S = ⊎_elim fits (λ n. inl ((n.1, n.2), inl n.0)) (own_verdict s op d)
    where
      fits : Fits row s op d → Refused s op d ⊎ Accepted s op d
      fits a =
          ⊎_elim (λ r. let T = step row L s op d S a r.0 in inr ((T, taken_done s op d r.0 T), λ u. ⊎_elim (λ n. n a) r.1 u))
          (λ r. inl ((r.0, full_refused s op d r.0 a r.1), inr r.2))
          (room_verdict op d S.within)

  -- ---- two changes and their fold

  change_given : (s : Side) (d : State R) (p j c v w : ℕ) (x y : List ℕ) (r r1 : R) (f g : Change) → At s d p j x y r → c < 4 →
      apply (kinds row s d c) f (get_or x c 0) ≡ Ok v → row.carry s c r f ≡ sent g r1 → apply (kinds row (across s) d c) g (get_or y c 0) ≡ Ok w →
      given row s (change (own s p j) c f) d ≡ Ok (change_at (own s j p) c g, placed s d p j (set x c v) (set y c w) r1)
  change_given s d p j c v w x y r r1 f g a small h q k =
      given_is row L s (change (own s p j) c f) (change_at (own s j p) c g) d (placed s d p j (set x c v) (set y c w) r1) refl (change_own row L s d p j c v w x y r r1 f a small h) refl
      (change_across row L s d p j c x y r r1 f g a q) (change_there row L s d p j c v w x y r r1 g a small k)

  done_by : (s : Side) (d e : State R) (p j c v : ℕ) (x y : List ℕ) (r : R) (f : Change) (t : Edit) → At s d p j x y r → c < 4 →
      apply (kinds row s d c) f (get_or x c 0) ≡ Ok v → Carries row s d.blank x y r c v f →
      given row s (change (own s p j) c f) d ≡ Ok (t, e) → Done row s d p j c x y r f t e
  done_by s d e p j c v x y r f t a small h g q =
      let z = same_ok (given row s (change (own s p j) c f) d) t (change_at (own s j p) c g.g) e (placed s d p j (set x c v) (set y c g.w) g.r1) q
      (change_given s d p j c v g.w x y r g.r1 f g.g a small h g.sent_is g.applies) in
      record { v = v; small = small; applies = h; carries = g; t_is = z.0; e_is = z.1 }

  change_done : (s : Side) (d e : State R) (p j c : ℕ) (x y : List ℕ) (r : R) (f : Change) (t : Edit) → At s d p j x y r → Matched row s d.blank x y r →
      given row s (change (own s p j) c f) d ≡ Ok (t, e) → Done row s d p j c x y r f t e
  change_done s d e p j c x y r f t a m h =
      let u = (done_fits s (change (own s p j) c f) t d e h).0 in
      let b = applies_at row s d p j c x y r f u.0 a u.1 in
      done_by s d e p j c b.0 x y r f t a b.1 b.2 (carry_row row L s d.blank x y r c b.0 f m b.1 b.2) h

  -- the fold of two changes accepted one after the other
  pub record Folded (s : Side) (d d2 : State R) (p c : ℕ) (e f : Change) (t1 t2 : Edit) : Type 0 where
    pub ef : Change
    pub t : Edit
    pub small : c < 4
    pub fold_is : fold (kinds row s d c) e f ≡ Ok (Some ef)
    pub answer_is : given row s (change p c ef) d ≡ Ok (t, d2)
    pub folds : Folds (kinds row (across s) d) t1 t2 t

  folded_at : (s : Side) (d d1 d2 : State R) (p j c : ℕ) (x y : List ℕ) (r : R) (e f : Change) (t1 t2 : Edit) → At s d p j x y r → Matched row s d.blank x y r →
      (D : Done row s d p j c x y r e t1 d1) →
      Done row s (placed s d p j (set x c D.v) (set y c D.carries.w) D.carries.r1) p j c (set x c D.v) (set y c D.carries.w) D.carries.r1 f t2 d2 →
      Folded s d d2 (own s p j) c e f t1 t2
  folded_at s d d1 d2 p j c x y r e f t1 t2 a m D E =
      ends (fold_row row L s d.blank r D.carries.r1 E.carries.r1 c (get_or x c 0) (get_or y c 0) D.v D.carries.w E.v E.carries.w e f D.carries.g E.carries.g
      m.built D.small (m.agree c D.small) D.applies (rw px at E.applies) D.carries.sent_is E.carries.sent_is D.carries.applies (rw py at E.carries.applies))
    where
      px : get_or (set x c D.v) c 0 ≡ D.v
      px = get_or-set_same x c D.v 0 (omega (arith, m.wide, D.small))

      py : get_or (set y c D.carries.w) c 0 ≡ D.carries.w
      py = get_or-set_same y c D.carries.w 0 (omega (arith, m.as_wide, D.small))

      same : d2 ≡ placed s d p j (set x c E.v) (set y c E.carries.w) E.carries.r1
      same = E.e_is ∙ simp set-set

      ends : RowFold row s d.blank r E.carries.r1 c (get_or x c 0) (get_or y c 0) E.v E.carries.w e f D.carries.g E.carries.g → Folded s d d2 (own s p j) c e f t1 t2
      ends F = record {
        ef = F.ef;
        t = change_at (own s j p) c F.gh;
        small = D.small;
        fold_is = F.fold_is;
        answer_is = rw same (change_given s d p j c E.v E.carries.w x y r E.carries.r1 F.ef F.gh a D.small F.applies F.sent_is F.applies_there);
        folds = record {
          place = own s j p;
          column = c;
          e = D.carries.g;
          f = E.carries.g;
          ef = F.gh;
          first_is = D.t_is;
          second_is = E.t_is;
          folded = F.folded;
          both_is = refl;
        };
      }

  folded : (s : Side) (d d1 d2 : State R) (p c : ℕ) (e f : Change) (t1 t2 : Edit) → Sound row d →
      given row s (change p c e) d ≡ Ok (t1, d1) → given row s (change p c f) d1 ≡ Ok (t2, d2) → Folded s d d2 p c e f t1 t2
  folded s d d1 d2 p c e f t1 t2 S h1 h2 = let u = (done_fits s (change p c e) t1 d d1 h1).0 in at_spot (found row s d p c e u.0 S u.1)
    where
      twice : (z : Found row s d p) → Done row s d z.line z.number c z.x z.y z.r e t1 d1 → given row s (change (own s z.line z.number) c f) d1 ≡ Ok (t2, d2) →
          Folded s d d2 (own s z.line z.number) c e f t1 t2
      twice z D k =
          folded_at s d d1 d2 z.line z.number c z.x z.y z.r e f t1 t2 z.here z.matched D
          (change_done s (placed s d z.line z.number (set z.x c D.v) (set z.y c D.carries.w) D.carries.r1) d2 z.line z.number c
          (set z.x c D.v) (set z.y c D.carries.w) D.carries.r1 f t2
          (at_placed s d z.line z.number z.x z.y (set z.x c D.v) (set z.y c D.carries.w) z.r D.carries.r1 z.here)
          D.carries.matched (rw D.e_is at k))

      at_spot : Found row s d p → Folded s d d2 p c e f t1 t2
      at_spot z =
          rw z.asked
          (twice z (change_done s d d1 z.line z.number c z.x z.y z.r e t1 z.here z.matched (rw z.asked at h1)) (rw z.asked at h2))

  -- ---- attempts

  -- a state with the size and the blank link of another
  pub record Kin (d e : State R) : Type 0 where
    pub size_is : e.size ≡ d.size
    pub blank_is : e.blank ≡ d.blank

  pub attempt_sound : (d : State R) (bytes : List ℕ) → Sound row d → Sound row (state_then d (attempt row d bytes)) × Kin d (state_then d (attempt row d bytes))
  attempt_sound d bytes S = go (attempt row d bytes) refl
    where
      go : (a : Result (Edit × State R) Fault) → attempt row d bytes ≡ a → Sound row (state_then d a) × Kin d (state_then d a)
      go (Err f) h = (S, record { size_is = refl; blank_is = refl })
      go (Ok a) h =
          let f = bind_ok (read (frame bytes)) _ a h in
          let T = taken f.0.0 f.0.1 a.0 d a.1 S f.2 in
          rw T.2 (T.0.sound, record { size_is = ap (λ z. z.size) T.0.framed; blank_is = ap (λ z. z.blank) T.0.framed })

  pub after_sound : (d : State R) (rest : List (List ℕ)) → Sound row d → Sound row (after row d rest) × Kin d (after row d rest)
  after_sound d [] S = (S, record { size_is = refl; blank_is = refl })
  after_sound d (b ∷ rest) S =
      let a = attempt_sound d b S in
      let z = after_sound (state_then d (attempt row d b)) rest a.0 in
      (z.0, record { size_is = z.1.size_is ∙ a.1.size_is; blank_is = z.1.blank_is ∙ a.1.blank_is })

  pub agreeing : (d : State R) → Sound row d → Agreeing row d
  agreeing d S = record { as_many = as_many; whole = whole; agree = agree; within = within }
    where
      n : (length (records_of d.lines) ≡ length d.records) × (length d.links ≡ length d.records)
      n = three_lengths (Matched row Left d.blank) (records_of d.lines) d.records d.links S.rows

      seen : (k : ℕ) → k < length d.links → Seen (Matched row Left d.blank) (records_of d.lines) d.records d.links k
      seen k h = three_seen (Matched row Left d.blank) (records_of d.lines) d.records d.links k S.rows (omega (arith, h, n.0, n.1))

      left : (k : ℕ) (h : k < length d.links) → get_or (records_of d.lines) k [] ≡ (seen k h).x
      left k h = item_get_or (records_of d.lines) k (seen k h).x [] (seen k h).x_is

      right : (k : ℕ) (h : k < length d.links) → get_or d.records k [] ≡ (seen k h).y
      right k h = item_get_or d.records k (seen k h).y [] (seen k h).y_is

      as_many : (s : Side) → length (rows s d) ≡ length d.links
      as_many Left = n.0 ∙ sym n.1
      as_many Right = sym n.1

      whole : (s : Side) (k : ℕ) → k < length d.links → length (get_or (rows s d) k []) ≡ 4
      whole Left k h = ap length (left k h) ∙ (seen k h).holds.wide
      whole Right k h = ap length (right k h) ∙ (seen k h).holds.as_wide

      agree : (k c : ℕ) → k < length d.links → c < 4 → row.agrees c (get_or d.links k d.blank) (value Left d k c) (value Right d k c)
      agree k c h small = rw (item_get_or d.links k (seen k h).z d.blank (seen k h).z_is, left k h, right k h) ((seen k h).holds.agree c small)

      within : (s : Side) (k c : ℕ) → k < length d.links → c < 4 → value s d k c ≤ (kinds row s d c).limit
      within Left k c h small = rw (left k h) (within_limits row L d.blank (seen k h).x (seen k h).y (seen k h).z c (seen k h).holds small).0
      within Right k c h small = rw (right k h) (within_limits row L d.blank (seen k h).x (seen k h).y (seen k h).z c (seen k h).holds small).1

  pub acting : (d : State R) → Sound row d → (bytes : List ℕ) (t : Edit) (e : State R) → attempt row d bytes ≡ Ok (t, e) → Acting row bytes t d e
  acting d S bytes t e h =
      let f = bind_ok (read (frame bytes)) _ (t, e) h in
      let T = taken f.0.0 f.0.1 t d e S f.2 in
      taken_acting bytes f.0.0 f.0.1 t d e T.0 (read_ok (frame bytes) f.0 f.1) T.1 T.2

  -- the attempt of bytes that say an edit
  attempt_is : (d : State R) (bytes : List ℕ) (s : Side) (op : Edit) → frame bytes ≡ Ok (s, op) → attempt row d bytes ≡ given row s op d
  attempt_is d bytes s op h = ap (λ f. read f >>= λ a. given row a.0 a.1 d) h

  pub refusing : (d : State R) → Sound row d → (bytes : List ℕ) (s : Side) (op : Edit) → frame bytes ≡ Ok (s, op) →
      ((f : Fault) × (attempt row d bytes ≡ Err f)) ↔ Unfit row s op d
  refusing d S bytes s op h =
      let is = attempt_is d bytes s op h in
      ⊎_elim (λ v. ((λ r. v.1), (λ u. (v.0.0, is ∙ v.0.1))))
      (λ v. ((λ r. absurd (never_ok r.0 _ (sym r.1 ∙ is ∙ v.0.1))), (λ u. absurd (v.1 u))))
      (verdict s op d S)

  replaced : (s : Side) (t1 t2 : Edit) (d d2 e : State R) (p c : ℕ) (f g : Change) (F : Folded s d d2 p c f g t1 t2) (bytes : List ℕ) → frame bytes ≡ Ok (s, change p c F.ef) → e ≡ d →
      Replaced row s t1 t2 d2 e bytes
  replaced s t1 t2 d d2 e p c f g F bytes q same = record {
    translation = F.t;
    then = d2;
    accepted = attempt_is e bytes s (change p c F.ef) q ∙ ap (given row s (change p c F.ef)) same ∙ F.answer_is;
    folds = rw same F.folds;
    alike = λ rest. (record { sheets = refl; tables = refl }, λ more. refl);
  }

  pub foldable : (size : ℕ) (pattern : R) (before : List (List ℕ)) (d : State R) → after row (opened row size pattern) before ≡ d → Sound row d →
      (s : Side) (p c : ℕ) (e f : Change) (first second : List ℕ) (t1 t2 : Edit) (d1 d2 : State R) →
      frame first ≡ Ok (s, change p c e) → frame second ≡ Ok (s, change p c f) →
      attempt row d first ≡ Ok (t1, d1) → attempt row d1 second ≡ Ok (t2, d2) →
      Foldable row size pattern before s p c e f first t1 t2 d d2
  foldable size pattern before d start S s p c e f first second t1 t2 d1 d2 q1 q2 h1 h2 =
      ends (folded s d d1 d2 p c e f t1 t2 S (sym (attempt_is d first s (change p c e) q1) ∙ h1) (sym (attempt_is d1 second s (change p c f) q2) ∙ h2))
    where
      ends : Folded s d d2 p c e f t1 t2 → Foldable row size pattern before s p c e f first t1 t2 d d2
      ends F =
          let plainly = folds_plain (kinds row s d c) e f F.ef F.fold_is in
          record {
            ef = F.ef;
            fold_is = F.fold_is;
            sayable = λ a. sayable_there first s p c e F.ef a q1 (λ narrow low. all_sayable s p c F.ef low narrow (operand (kinds row s d c) F.ef plainly.1 plainly.0)) plainly.0;
            replaced = λ bytes q alike same. replaced s t1 t2 d d2 (after row (opened row size alike) before) p c e f F bytes q
                (ap (λ b. after row (record { size = size; blank = b; lines = []; records = []; links = [] }) before) same ∙ start);
          }

pub promise : {R : Type 0} (row : Columns R) → LawfulRow 4 row → Promise row
promise row L size pattern = record { no_lines = refl; no_records = refl; always = each }
  where
    each : (before : List (List ℕ)) → Stands row size pattern before (after row (opened row size pattern) before)
    each before =
        let d = after row (opened row size pattern) before in
        let S = after_sound row L (opened row size pattern) before (opened_sound row L size pattern) in
        record {
          size_stays = S.1.size_is;
          pattern_stays = S.1.blank_is;
          agreeing = agreeing row L d S.0;
          acting = acting row L d S.0;
          refusing = refusing row L d S.0;
          folding = foldable row L size pattern before d refl S.0;
        }

-- An edit keeps the size, the blank link and the build of every link.
use Rattle.std.proofs.Common.{◌≡◌, ℕ, zero, suc, Some, None, Ok, Err, Option, Result, List, [], ◌∷◌, take, drop, set, sym, refl, ap, ◌∙◌, subst, ⊎_elim}
use Rattle.std.specs.List.{AllByRecursion, ContainsAt, insert, remove}
use Rattle.std.proofs.lemmas.Bool.{cases_lt}
use Rattle.std.proofs.ByRecursion.{All-weaker, All-take, All-drop, All-append, All-set, all-has, all_has_itself}
use Rattle.kinds.specs.Answers.{need}
use Rattle.kinds.specs.declared.change.Change.{Change}
use Rattle.kinds.specs.declared.side.Side.{Side}
use Rattle.kinds.specs.declared.side.Side.TheVariants.{Left, Right}
use Rattle.links.specs.Laws.{Carried, sent, refused}
use Rattle.links.specs.Columns.{Columns, LawfulRow, across}
use Rattle.links.specs.TranslationsLemmas.{never_sent}
use Rattle.frames.specs.declared.frame.Operation.{Operation}
use Rattle.frames.specs.Edits.{Edit, keep, insert as insertion, remark, delete, move, change}
use Rattle.slots.specs.Slots.{table, items}
use Rattle.documents.specs.declared.fault.Fault.{Fault}
use Rattle.documents.specs.declared.fault.Fault.TheVariants.{NotInDocument}
use Rattle.documents.specs.Documents.{Line, Item, form, item, moved, put_in}
use Rattle.documents.specs.Across.{number_at, link_answer, carried, relinked, translated}
use Rattle.documents.specs.Attempts.{State, document, kinds, with_own, tried, room, position, given, state_then}
use Rattle.documents.proofs.Answers.{never_ok, bind_ok, need_ok}
use Rattle.documents.proofs.Rows.{way}
use Rattle.pair.specs.declared.pair.Pair.{Pair}
use Rattle.pair.specs.State.{state, OneBuild, Plays}

module _ {X : Type 0} (P : X → Type 0) where
  all_inserted : (xs : List X) (n : ℕ) (x : X) → AllByRecursion P xs → P x → AllByRecursion P (insert xs n x)
  all_inserted xs n x all h = All-append P (take n xs) (x ∷ drop n xs) (All-take P n xs all) (h, All-drop P n xs all)

  all_removed : (xs : List X) (n : ℕ) → AllByRecursion P xs → AllByRecursion P (remove xs n)
  all_removed xs n all = All-append P (take n xs) (drop (suc n) xs) (All-take P n xs all) (All-drop P (suc n) xs all)

  item_has : (xs : List X) (n : ℕ) (x : X) → item xs n ≡ Some x → AllByRecursion P xs → P x
  item_has [] n x e all = cc
  item_has (y ∷ xs) zero x e all = let same : y ≡ x = cc e in subst P same all.0
  item_has (y ∷ xs) (suc n) x e all = item_has xs n x e all.1

  all_put_in : (o : Option X) (xs : List X) (n : ℕ) → ((x : X) → o ≡ Some x → P x) → AllByRecursion P xs → AllByRecursion P (put_in o xs n)
  all_put_in None xs n h all = all
  all_put_in (Some x) xs n h all = all_inserted xs n x all (h x refl)

  all_moved : (xs : List X) (p q : ℕ) → AllByRecursion P xs → AllByRecursion P (moved xs p q)
  all_moved xs p q all = all_put_in (item xs p) (remove xs p) q (λ x e. item_has xs p x e all) (all_removed xs p all)

  -- a new record's link, and the links that stay
  all_relinked : (blank : X) (e : Edit) (links : List X) → P blank → AllByRecursion P links → AllByRecursion P (relinked blank e links)
  all_relinked blank keep links b all = all
  all_relinked blank (insertion j) links b all = all_inserted links j blank all b
  all_relinked blank (remark j t) links b all = all
  all_relinked blank (delete j) links b all = all_removed links j all
  all_relinked blank (move j k) links b all = all_moved links j k all
  all_relinked blank (change j c e) links b all = all

module _ {R : Type 0} (row : Columns R) (L : LawfulRow 4 row) where
  -- carrying keeps the build, in a column beyond the four too, where it is refused
  carry_keeps : (s : Side) (c : ℕ) (r t : R) (e f : Change) → row.carry s c r e ≡ sent f t → row.fresh t ≡ row.fresh r
  carry_keeps s c r t e f h = ⊎_elim (λ lt. (way row L s c lt).keeps r t e f h) (λ le. absurd (never_sent _ t f (sym (L.beyond s c r e le) ∙ h))) (cases_lt c 4)

  link_sent : (p c : ℕ) (o : Carried R) (a : Change × R) → link_answer p c o ≡ Ok a → o ≡ sent a.0 a.1
  link_sent p c (sent f r) a e = let same : ◌≡◌ {A = Change × R} (f, r) a = cc e in ap (λ z. sent z.0 z.1) same
  link_sent p c (refused n) a e = absurd (never_ok _ a e)

  module _ (b : R) where
    abbrev Built : R → Type 0
    Built r = row.fresh r ≡ b

    answered_built : (t : Edit) (links : List R) (a : Edit × List R) → ◌≡◌ {A = Result (Edit × List R) Fault} (Ok (t, links)) (Ok a) → AllByRecursion Built links → AllByRecursion Built a.1
    answered_built t links a h all = let same : ◌≡◌ {A = Edit × List R} (t, links) a = cc h in subst (λ z. AllByRecursion Built z.1) same all

    carried_built : (s : Side) (lines : List Line) (links : List R) (e : Edit) (a : Edit × List R) → carried row s lines links e ≡ Ok a → AllByRecursion Built links → AllByRecursion Built a.1
    carried_built s lines links keep a h all = answered_built _ links a h all
    carried_built s lines links (insertion p) a h all = answered_built _ links a h all
    carried_built s lines links (remark p t) a h all = answered_built _ links a h all
    carried_built s lines links (delete p) a h all = answered_built _ links a h all
    carried_built s lines links (move p q) a h all = answered_built _ links a h all
    carried_built s lines links (change p c e) a h all =
        let j = number_at s lines p in
        let r = bind_ok (need (item links j) (NotInDocument p)) _ a h in
        let z = bind_ok (link_answer p c (row.carry s c r.0 e)) _ a r.2 in
        let new : Built z.0.1 = carry_keeps s c r.0 z.0.1 e z.0.0 (link_sent p c _ z.0 z.1) ∙ item_has Built links j r.0 (need_ok _ _ _ r.1) all in
        answered_built _ (set links j z.0.1) a z.2 (All-set Built links j z.0.1 new all)

    translated_built : (s : Side) (blank : R) (lines : List Line) (links : List R) (e : Edit) (a : Edit × List R) → translated row s blank lines links e ≡ Ok a →
        Built blank → AllByRecursion Built links → AllByRecursion Built a.1
    translated_built s blank lines links e a h new all =
        let z = bind_ok (carried row s lines links e) _ a h in
        answered_built _ _ a z.2 (all_relinked Built blank _ z.0.1 new (carried_built s lines links e z.0 z.1 all))

  -- a state with the size and the blank link of another, and links of that build if those of the other are
  record Like (d e : State R) : Type 0 where
    size_is : e.size ≡ d.size
    blank_is : e.blank ≡ d.blank
    built : AllByRecursion (Built (row.fresh d.blank)) d.links → AllByRecursion (Built (row.fresh d.blank)) e.links

  like : (d : State R) → Like d d
  like d = record { size_is = refl; blank_is = refl; built = λ all. all }

  like_own : (s : Side) (d : State R) (own : List (Item s)) (other : List (Item (across s))) (links : List R) →
      (AllByRecursion (Built (row.fresh d.blank)) d.links → AllByRecursion (Built (row.fresh d.blank)) links) → Like d (with_own s d own other links)
  like_own Left d own other links h = record { size_is = refl; blank_is = refl; built = h }
  like_own Right d own other links h = record { size_is = refl; blank_is = refl; built = h }

  answered_like : (t : Edit) (d e : State R) (a : Edit × State R) → ◌≡◌ {A = Result (Edit × State R) Fault} (Ok (t, e)) (Ok a) → Like d e → Like d a.1
  answered_like t d e a h l = let same : ◌≡◌ {A = Edit × State R} (t, e) a = cc h in subst (λ z. Like d z.1) same l

  given_like : (s : Side) (e : Edit) (d : State R) (a : Edit × State R) → given row s e d ≡ Ok a → Like d a.1
  given_like s e d a h =
      let own = bind_ok (tried (form s) (kinds row s d) (λ p. p) e (document s d)) _ a h in
      let fits = bind_ok (room e d) _ a own.2 in
      let t = bind_ok (translated row s d.blank d.lines d.links e) _ a fits.2 in
      let other = bind_ok (tried (form (across s)) (kinds row (across s) d) (λ _. position e) t.0.0 (document (across s) d)) _ a t.2 in
      answered_like t.0.0 d (with_own s d own.0 other.0 t.0.1) a other.2 (like_own s d own.0 other.0 t.0.1 (translated_built (row.fresh d.blank) s d.blank d.lines d.links e t.0 t.1 refl))

  -- the state that an edit leaves, refused or not
  left_like : (s : Side) (e : Edit) (d : State R) (a : Result (Edit × State R) Fault) → given row s e d ≡ a → Like d (state_then d a)
  left_like s e d (Err f) h = like d
  left_like s e d (Ok a) h = given_like s e d a h

  -- a pair after an edit of one of its documents
  module _ (s t : Pair R) (side : Side) (e : Edit) (r : Result Operation Fault) (plays : Plays (given row side e (state s)) s r t) where
    left : Like (state s) (state t)
    left = subst (Like (state s)) (sym plays.leaves) (left_like side e (state s) (given row side e (state s)) refl)

    pub edit_stays : (t.size ≡ s.size) × (t.blank ≡ s.blank)
    edit_stays = (left.size_is, left.blank_is)

    pub edit_builds : OneBuild row s → OneBuild row t
    edit_builds all =
        let P : R → Type 0 = Built (row.fresh s.blank) in
        let new = left.built (All-take P s.links.len (table s.links) all) in
        let each : (x : R) → ContainsAt (table t.links) x → P x = λ x h. ⊎_elim (all-has P (items t.links) x new) (all-has P (table s.links) x all) (plays.links_from x h) in
        subst (λ k. AllByRecursion (Built (row.fresh k)) (table t.links)) (sym left.blank_is) (All-weaker (ContainsAt (table t.links)) P each (table t.links) (all_has_itself (table t.links)))

-- The link from an amount to its full lots is lawful. An integer z is read as `up z` less `down z`.
use Rattle.std.specs.Prelude.{◌≡◌, ℕ, zero, suc, ◌+◌, ◌-◌, ◌*◌, ◌/◌, ◌%◌, ◌^◌, ◌<◌, ◌≤◌, Bool, true, false, cond, ℤ, pos, negsuc, ◌+ℤ◌, ◌*ℤ◌, Some, Ok, Err, Result, FitsSigned, nat_le, unsigned_abs, refl}
use Rattle.std.proofs.Common.{sym, ap, ap₂, subst, ◌∙◌, mul-zero, mul-suc, mul_comm, mul-add, add-mul, arith, to_z, of_z}
use mathlib.Core.HLevel.{is_prop→PathP}
use Rattle.std.proofs.Math.Bridge.{le_prop}
use Rattle.std.proofs.Math.Nat.{div-add-mod, lt_of_mul-lt-mul_left}
use borrow.Author.Differences.{up, down, same_in, sum_is_lem, product_is}
use Rattle.std.specs.Int.{w32, w64}
use Rattle.std.proofs.lemmas.Nat.{mod_below, div-mul-add, mod-mul-add, mul-le}
use Rattle.std.proofs.lemmas.Int.{ints, to_z-of_z}
use Rattle.std.proofs.lemmas.Bool.{leb-true, le-leb}
use Rattle.kinds.specs.declared.kind.Letter.TheVariants.{Amount}
use Rattle.kinds.specs.declared.kind.Kind.{Kind}
use Rattle.kinds.specs.declared.change.Change.{Change}
use Rattle.kinds.specs.declared.change.Change.TheVariants.{Add}
use Rattle.kinds.specs.Changes.{plain}
use Rattle.kinds.specs.Kinds.{after, of_kind, apply, fold}
use Rattle.kinds.proofs.Same.{kind_same}
use Rattle.kinds.proofs.Actions.{Action, amount, both, change, Small, plain_twice, within_some, some_within, after_add}
use Rattle.kinds.proofs.Folding.{applied, applies, kind_action, action_kind, fold_action, folds_act}
use Rattle.supplied.specs.declared.carry.Carry.{Carry}
use Rattle.links.specs.declared.refusal.CarryRefusal.{CarryRefusal}
use Rattle.links.specs.declared.refusal.CarryRefusal.TheVariants.{NotOfKind, NoTranslation}
use Rattle.kinds.specs.declared.side.Side.TheVariants.{Left, Right}
use Rattle.links.specs.Laws.{sent, refused, from, Sends, Lawful}
use Rattle.links.specs.Translations.{admitted, Related}
use Rattle.supplied.specs.Carries.{floor, remainder, RoundsDown, remainder_below, added, amounts, many_small, lots_small, many, lots, with_rest, split_up, carrying}
use Rattle.links.specs.Rules.{keep_of_kind}
use Rattle.links.specs.TranslationsLemmas.{never_sent, follows_to, admitted_out, translated_at, Translates, action_translates, translation_sends}

-- ---- changes of amounts

-- what an addition adds
pub added_plain : (d : ℤ) → added (plain (Add d)) ≡ d
added_plain (pos zero) = refl
added_plain (pos (suc n)) = refl
added_plain (negsuc n) = refl

module _ (n : ℕ) (small : n ≤ 2000000000) where
  -- a change of the kind adds a small amount
  pub kind_adds : (e : Change) → of_kind (amounts n small) e ≡ true → (plain e ≡ plain (Add (added (plain e)))) × (unsigned_abs (added (plain e)) ≤ n)
  kind_adds e h = let a = kind_action (amounts n small) e h in go a.0 a.1 a.2
    where
      go : (a : Action Amount) → Small n a → plain e ≡ change a → (plain e ≡ plain (Add (added (plain e)))) × (unsigned_abs (added (plain e)) ≤ n)
      go (amount d) s p = let is : added (plain e) ≡ d = ap added p ∙ added_plain d in (p ∙ ap (λ z. plain (Add z)) (sym is), subst (λ z. unsigned_abs z ≤ n) (sym is) s)

  pub adds_kind : (d : ℤ) → unsigned_abs d ≤ n → of_kind (amounts n small) (plain (Add d)) ≡ true
  adds_kind d h = action_kind (amounts n small) (amount d) h

  -- what a change that applies adds
  adds : (e : Change) (x v : ℕ) → apply (amounts n small) e x ≡ Ok v → (unsigned_abs (added (plain e)) ≤ n) × (x ≤ n) × (v ≤ n) × (pos x +ℤ added (plain e) ≡ pos v)
  adds e x v h =
      let o = applied (amounts n small) e x v h in
      let k = kind_adds e o.0 in
      let w = within_some n (pos x +ℤ added (plain e)) v (sym (ap (λ p. after n p x) k.0 ∙ after_add n (added (plain e)) x o.1) ∙ o.2) in
      (k.1, o.1, w.0, w.1)

  -- and back
  gives : (d : ℤ) (x v : ℕ) → unsigned_abs d ≤ n → x ≤ n → v ≤ n → pos x +ℤ d ≡ pos v → apply (amounts n small) (plain (Add d)) x ≡ Ok v
  gives d x v s a b p =
      applies (amounts n small) (plain (Add d)) x v (adds_kind d s) a (ap (λ e. after n e x) (plain_twice (Add d)) ∙ after_add n d x a ∙ some_within n (pos x +ℤ d) v b p)

  -- two changes that apply in turn fold to their sum
  folds_sum : (e f : Change) (x v w : ℕ) → apply (amounts n small) e x ≡ Ok v → apply (amounts n small) f v ≡ Ok w →
      (fold (amounts n small) e f ≡ Ok (Some (plain (Add (added (plain e) +ℤ added (plain f)))))) × (unsigned_abs (added (plain e) +ℤ added (plain f)) ≤ n)
  folds_sum e f x v w p q =
      let k = amounts n small in
      let r = folds_act k e f x v w p q in
      let a = kind_adds e (applied k e x v p).0 in
      let b = kind_adds f (applied k f v w q).0 in
      let s = fold_action k e f r.0 (amount (added (plain e))) (amount (added (plain f))) a.1 b.1 a.0 b.0 r.1 in
      (r.1 ∙ ap (λ o. Ok (Some o)) s.0, s.2)

-- ---- lots

floor_is : (t : ℤ) (n : ℕ) → 0 < n → n * up (floor t n) + remainder t n + down t ≡ up t + n * down (floor t n)
floor_is (pos a) n h = omega (arith, div-add-mod a n, mul-zero n)
floor_is (negsuc a) n h = omega (arith, div-add-mod a n, mul-zero n, mul-suc n (a / n), mod_below a n h)

floor_only : (t q : ℤ) (n r : ℕ) → r < n → n * up q + r + down t ≡ up t + n * down q → (floor t n ≡ q) × (remainder t n ≡ r)
floor_only t q n r h e =
    let pos_n : 0 < n = omega arith in
    let is = floor_is t n pos_n in
    let r_below = remainder_below t n pos_n in
    let one : (up q + down (floor t n)) * n + r ≡ (up (floor t n) + down q) * n + remainder t n =
    omega (arith, add-mul (up q) (down (floor t n)) n, add-mul (up (floor t n)) (down q) n, mul_comm n (up q), mul_comm n (down q), mul_comm n (up (floor t n)), mul_comm n (down (floor t n))) in
    let quotients : up q + down (floor t n) ≡ up (floor t n) + down q =
    sym (div-mul-add (up q + down (floor t n)) n r h) ∙ ap (λ k. k / n) one ∙ div-mul-add (up (floor t n) + down q) n (remainder t n) r_below in
    let rests : r ≡ remainder t n = sym (mod-mul-add (up q + down (floor t n)) n r h) ∙ ap (λ k. k % n) one ∙ mod-mul-add (up (floor t n) + down q) n (remainder t n) r_below in
    (sym (same_in q (floor t n) quotients), sym rests)

-- ---- one step to the right

pub carry_same : (c d : Carry) → c.ratio ≡ d.ratio → c.limit ≡ d.limit → c.rest ≡ d.rest → c ≡ d
carry_same c d p q r = λ i. record {
  ratio = p i;
  limit = q i;
  rest = r i;
  positive = is_prop→PathP (λ j. 0 < p j) (λ j. le_prop) c.positive d.positive i;
  small = is_prop→PathP (λ j. p j * (q j + 1) ≤ 2000000001) (λ j. le_prop) c.small d.small i;
  below = is_prop→PathP (λ j. r j < p j) (λ j. le_prop) c.below d.below i;
}

-- z is added on the left, q on the right, and d is left
record Step (c d : Carry) (z q : ℤ) : Type 0 where
  small : unsigned_abs q ≤ c.limit
  ratio_is : d.ratio ≡ c.ratio
  limit_is : d.limit ≡ c.limit
  splits : c.ratio * up q + d.rest + down z ≡ c.rest + up z + c.ratio * down q

-- what an answer says
split_out : (c d : Carry) (z : ℤ) (f : Change) → split_up c (pos c.rest +ℤ z) ≡ sent f d → (q : ℤ) × (f ≡ plain (Add q)) × Step c d z q
split_out c d z f h = go (nat_le (unsigned_abs (floor (pos c.rest +ℤ z) c.ratio)) c.limit) refl h
  where
    go : (b : Bool) → nat_le (unsigned_abs (floor (pos c.rest +ℤ z) c.ratio)) c.limit ≡ b →
        cond b (sent (plain (Add (floor (pos c.rest +ℤ z) c.ratio))) (with_rest c (remainder (pos c.rest +ℤ z) c.ratio) (remainder_below (pos c.rest +ℤ z) c.ratio c.positive))) (refused NoTranslation) ≡ sent f d →
        (q : ℤ) × (f ≡ plain (Add q)) × Step c d z q
    go true l r =
        let d_is : with_rest c (remainder (pos c.rest +ℤ z) c.ratio) (remainder_below (pos c.rest +ℤ z) c.ratio c.positive) ≡ d = cc r in
        let rest_is : remainder (pos c.rest +ℤ z) c.ratio ≡ d.rest = ap (λ (k : Carry). k.rest) d_is in (
          floor (pos c.rest +ℤ z) c.ratio,
          cc r,
          record {
            small = leb-true _ c.limit l;
            ratio_is = sym (ap (λ (k : Carry). k.ratio) d_is);
            limit_is = sym (ap (λ (k : Carry). k.limit) d_is);
            splits = omega (arith, ints, floor_is (pos c.rest +ℤ z) c.ratio c.positive, sum_is_lem (pos c.rest) z);
          },
        )
    go false l r = absurd (never_sent NoTranslation d f r)

-- and back
split_in : (c d : Carry) (z q : ℤ) → Step c d z q → split_up c (pos c.rest +ℤ z) ≡ sent (plain (Add q)) d
split_in c d z q s =
    let below : d.rest < c.ratio = subst (λ n. d.rest < n) s.ratio_is d.below in
    let only = floor_only (pos c.rest +ℤ z) q c.ratio d.rest below (omega (arith, s.splits, sum_is_lem (pos c.rest) z)) in
    split_at c d (pos c.rest +ℤ z) q s.small only.0 (sym s.ratio_is) (sym s.limit_is) only.1
  where
    split_at : (c d : Carry) (t q : ℤ) → unsigned_abs q ≤ c.limit → floor t c.ratio ≡ q → c.ratio ≡ d.ratio → c.limit ≡ d.limit → remainder t c.ratio ≡ d.rest → split_up c t ≡ sent (plain (Add q)) d
    split_at c d t q small q_is ratio_is limit_is rest_is =
        let next = with_rest c (remainder t c.ratio) (remainder_below t c.ratio c.positive) in
        let next_is : next ≡ d = carry_same next d ratio_is limit_is rest_is in
        ap (λ k. cond (nat_le (unsigned_abs k) c.limit) (sent (plain (Add k)) next) (refused NoTranslation)) q_is
        ∙ ap (λ b. cond b (sent (plain (Add q)) next) (refused NoTranslation)) (le-leb (unsigned_abs q) c.limit small) ∙ ap (sent (plain (Add q))) next_is

-- the left limit
abbrev full : Carry → ℕ
full c = c.ratio * (c.limit + 1) - 1

right_in : (c d : Carry) (e : Change) (q : ℤ) → of_kind (many c) e ≡ true → Step c d (added (plain e)) q → carrying.rightward c e ≡ sent (plain (Add q)) d
right_in c d e q h s = ap (λ b. cond b (split_up c (pos c.rest +ℤ added (plain e))) (refused NotOfKind)) h ∙ split_in c d (added (plain e)) q s

right_out : (c d : Carry) (e f : Change) → carrying.rightward c e ≡ sent f d → (of_kind (many c) e ≡ true) × ((q : ℤ) × (f ≡ plain (Add q)) × Step c d (added (plain e)) q)
right_out c d e f h = go (of_kind (many c) e) refl h
  where
    go : (b : Bool) → of_kind (many c) e ≡ b → cond b (split_up c (pos c.rest +ℤ added (plain e))) (refused NotOfKind) ≡ sent f d → (of_kind (many c) e ≡ true) × ((q : ℤ) × (f ≡ plain (Add q)) × Step c d (added (plain e)) q)
    go true t r = (t, split_out c d (added (plain e)) f r)
    go false t r = absurd (never_sent NotOfKind d f r)

-- y follows x
step_values : (n m r r' x y v : ℕ) (z q : ℤ) → x ≡ n * y + r → r' < n → x ≤ n * (m + 1) - 1 → v ≤ n * (m + 1) - 1 → pos x +ℤ z ≡ pos v → n * up q + r' + down z ≡ r + up z + n * down q →
    (w : ℕ) × (pos y +ℤ q ≡ pos w) × (v ≡ n * w + r') × (w ≤ m)
step_values n m r r' x y v z q x_is below x_fits v_fits sum splits =
    let added : x + up z ≡ v + down z = omega (arith, ints) in
    let e : v + n * down q ≡ n * (y + up q) + r' = omega (arith, mul-add n y (up q)) in
    let less : n * down q < n * suc (y + up q) = omega (arith, mul-suc n (y + up q)) in
    let l : down q < suc (y + up q) = lt_of_mul-lt-mul_left n less in
    let w : ℕ = y + up q - down q in
    let w_is : w + down q ≡ y + up q = omega arith in
    let v_is : v ≡ n * w + r' = omega (arith, mul-add n w (down q), ap (λ k. n * k) w_is) in
    let some : 1 ≤ n * (m + 1) = omega (arith, mul-le 1 1 n (m + 1) (omega arith) (omega arith)) in
    let w_less : n * w < n * (m + 1) = omega arith in
    let w_fits : w < m + 1 = lt_of_mul-lt-mul_left n w_less in
    (w, omega (arith, ints, sum_is_lem (pos y) q), v_is, omega arith)

-- how far two values lie apart
apart : (n x v : ℕ) (d : ℤ) → x ≤ n → v ≤ n → pos x +ℤ d ≡ pos v → unsigned_abs d ≤ n
apart n x v d a b e = omega (arith, ints)

-- ---- to the right

right_follows : (c : Carry) (x y v : ℕ) (e : Change) → carrying.agrees c x y → apply (many c) e x ≡ Ok v → (d : Carry) × (f : Change) × (u : ℕ) × (carrying.rightward c e ≡ sent f d) × (apply (lots c) f y ≡ Ok u) × carrying.agrees d v u
right_follows c x y v e a h =
    let n = c.ratio in
    let z = added (plain e) in
    let k = adds (full c) (many_small c) e x v h in
    let t = pos c.rest +ℤ z in
    let q = floor t n in
    let below = remainder_below t n c.positive in
    let d = with_rest c (remainder t n) below in
    let splits : n * up q + remainder t n + down z ≡ c.rest + up z + n * down q = omega (arith, floor_is t n c.positive, sum_is_lem (pos c.rest) z) in
    let s = step_values n c.limit c.rest (remainder t n) x y v z q a.2 below k.1 k.2 k.3 splits in
    let small = apart c.limit y s.0 q a.1 s.3 s.1 in
    let step : Step c d z q = record { small = small; ratio_is = refl; limit_is = refl; splits = splits } in
    (d, plain (Add q), s.0, right_in c d e q (applied (many c) e x v h).0 step, gives c.limit (lots_small c) q y s.0 small a.1 s.3 s.1, (k.2, s.3, s.2))

-- two steps in one
joined : (c d u : Carry) (z z' q q' : ℤ) → Step c d z q → Step d u z' q' → unsigned_abs (q +ℤ q') ≤ c.limit → Step c u (z +ℤ z') (q +ℤ q')
joined c d u z z' q q' m m' small =
    let n = c.ratio in
    let first : n * up q + d.rest + down z ≡ c.rest + up z + n * down q = m.splits in
    let second : n * up q' + u.rest + down z' ≡ d.rest + up z' + n * down q' = subst (λ k. k * up q' + u.rest + down z' ≡ d.rest + up z' + k * down q') m.ratio_is m'.splits in
    let lots_sum : n * (up (q +ℤ q') + down q + down q') ≡ n * (down (q +ℤ q') + up q + up q') = ap (λ k. n * k) (sum_is_lem q q') in
    let split_left = mul-add n (up (q +ℤ q') + down q) (down q') ∙ ap (λ k. k + n * down q') (mul-add n (up (q +ℤ q')) (down q)) in
    let split_right = mul-add n (down (q +ℤ q') + up q) (up q') ∙ ap (λ k. k + n * up q') (mul-add n (down (q +ℤ q')) (up q)) in
    let amounts_sum = sum_is_lem z z' in
    record { small = small; ratio_is = m'.ratio_is ∙ m.ratio_is; limit_is = m'.limit_is ∙ m.limit_is; splits = omega arith }

same_build : (c d : Carry) → d.ratio ≡ c.ratio → d.limit ≡ c.limit → carrying.fresh d ≡ carrying.fresh c
same_build c d p q = carry_same (carrying.fresh d) (carrying.fresh c) p q refl

build_kinds : (c d : Carry) → carrying.fresh c ≡ carrying.fresh d → (many c ≡ many d) × (lots c ≡ lots d)
build_kinds c d h =
    let r = ap (λ (k : Carry). k.ratio) h in
    let l = ap (λ (k : Carry). k.limit) h in
    (kind_same (many c) (many d) refl (ap₂ (λ n m. n * (m + 1) - 1) r l), kind_same (lots c) (lots d) refl l)

-- what a translated addition adds
adds_back : (f : Change) (q : ℤ) → f ≡ plain (Add q) → added (plain f) ≡ q
adds_back f q h = ap (λ o. added (plain o)) h ∙ ap added (plain_twice (Add q)) ∙ added_plain q

right_folds : (c d u : Carry) (x y v w : ℕ) (e f g h : Change) → carrying.agrees c x y → apply (many c) e x ≡ Ok v → apply (many c) f v ≡ Ok w → carrying.rightward c e ≡ sent g d → carrying.rightward d f ≡ sent h u →
    (a b : Change) × (fold (many c) e f ≡ Ok (Some a)) × (fold (lots c) g h ≡ Ok (Some b)) × (carrying.rightward c a ≡ sent b u)
right_folds c d u x y v w e f g h a p p' i j =
    let way = from Left carrying in
    let r = (right_out c d e g i).1 in
    let r' = (right_out d u f h j).1 in
    let k = build_kinds c d (sym (same_build c d r.2.ratio_is r.2.limit_is)) in
    let m = follows_to way right_follows c d x y v e g a p i in
    let m' = follows_to way right_follows d u v m.0 w f h m.2 (subst (λ o. apply o f v ≡ Ok w) k.0 p') j in
    let near = folds_sum (full c) (many_small c) e f x v w p p' in
    let far = folds_sum c.limit (lots_small c) g h y m.0 m'.0 m.1 (subst (λ o. apply o h m.0 ≡ Ok m'.0) (sym k.1) m'.1) in
    let far_is : added (plain g) +ℤ added (plain h) ≡ r.0 +ℤ r'.0 = ap₂ ◌+ℤ◌ (adds_back g r.0 r.1) (adds_back h r'.0 r'.1) in
    let z = added (plain e) +ℤ added (plain f) in
    let step = joined c d u (added (plain e)) (added (plain f)) r.0 r'.0 r.2 r'.2 (subst (λ o. unsigned_abs o ≤ c.limit) far_is far.1) in (
      plain (Add z),
      plain (Add (r.0 +ℤ r'.0)),
      near.0,
      far.0 ∙ ap (λ o. Ok (Some (plain (Add o)))) far_is,
      right_in c u (plain (Add z)) (r.0 +ℤ r'.0) (adds_kind (full c) (many_small c) z near.1) (subst (λ o. Step c u o (r.0 +ℤ r'.0)) (sym (adds_back (plain (Add z)) z refl)) step),
    )

right_sends : Sends (from Left carrying)
right_sends = record {
  follows = right_follows;
  still = λ c e h. right_in c c e (pos 0) (keep_of_kind (many c) e h) (subst (λ z. Step c c z (pos 0)) (sym (ap added h)) (record { small = omega arith; ratio_is = refl; limit_is = refl; splits = omega arith }));
  folds = right_folds;
  refuses = λ c e h. ap (λ b. cond b (split_up c (pos c.rest +ℤ added (plain e))) (refused NotOfKind)) h;
  answers = λ c d e f h.
      let r = (right_out c d e f h).1 in
      (ap plain r.1 ∙ plain_twice (Add r.0) ∙ sym r.1, ap (of_kind (lots c)) r.1 ∙ adds_kind c.limit (lots_small c) r.0 r.2.small);
  keeps = λ c d e f h. let s = (right_out c d e f h).1.2 in same_build c d s.ratio_is s.limit_is;
}

-- ---- to the left

times_is : (n : ℕ) (d : ℤ) → (up (pos n *ℤ d) ≡ n * up d) × (down (pos n *ℤ d) ≡ n * down d)
times_is n d = omega (arith, product_is (pos n) d)

times_sum : (n : ℕ) (d d' : ℤ) → pos n *ℤ (d +ℤ d') ≡ pos n *ℤ d +ℤ pos n *ℤ d'
times_sum n d d' =
    let scaled : n * (up (d +ℤ d') + down d + down d') ≡ n * (down (d +ℤ d') + up d + up d') = ap (λ k. n * k) (sum_is_lem d d') in
    let split_left = mul-add n (up (d +ℤ d') + down d) (down d') ∙ ap (λ k. k + n * down d') (mul-add n (up (d +ℤ d')) (down d)) in
    let split_right = mul-add n (down (d +ℤ d') + up d) (up d') ∙ ap (λ k. k + n * up d') (mul-add n (down (d +ℤ d')) (up d)) in
    same_in (pos n *ℤ (d +ℤ d')) (pos n *ℤ d +ℤ pos n *ℤ d') (omega (arith, sum_is_lem (pos n *ℤ d) (pos n *ℤ d'), times_is n d, times_is n d', times_is n (d +ℤ d')))

-- lots of a small number are a small amount
times_small : (n m : ℕ) (d : ℤ) → 0 < n → unsigned_abs d ≤ m → unsigned_abs (pos n *ℤ d) ≤ n * (m + 1) - 1
times_small n m (pos a) h l = omega (arith, ints, times_is n (pos a), mul-le n a n m (omega arith) l, mul-add n m 1)
times_small n m (negsuc a) h l = omega (arith, ints, times_is n (negsuc a), mul-le n (suc a) n m (omega arith) l, mul-add n m 1)

-- x follows y
back_values : (n m r x y w : ℕ) (d : ℤ) → r < n → x ≡ n * y + r → w ≤ m → pos y +ℤ d ≡ pos w → (pos x +ℤ pos n *ℤ d ≡ pos (n * w + r)) × (n * w + r ≤ n * (m + 1) - 1)
back_values n m r x y w d below x_is w_fits sum =
    let sums : y + up d ≡ w + down d = omega (arith, ints) in
    let scaled : n * (y + up d) ≡ n * (w + down d) = ap (λ k. n * k) sums in
    let facts = times_is n d in
    (omega (arith, ints, mul-add n y (up d), mul-add n w (down d)), omega (arith, mul-le n w n m (omega arith) w_fits, mul-add n m 1))

lot_action : ℕ → Action Amount → Action Amount
lot_action n (amount d) = amount (pos n *ℤ d)

multiplies : (c : Carry) → Translates (lots c) (many c) (λ y x. x ≡ c.ratio * y + c.rest) (λ p. plain (Add (pos c.ratio *ℤ added p)))
unfolding lot_action
multiplies c = action_translates (lots c) (many c) (λ y x. x ≡ c.ratio * y + c.rest) (λ p. plain (Add (pos c.ratio *ℤ added p))) (lot_action c.ratio) (ap (λ k. plain (Add (pos k))) (mul-zero c.ratio)) turns small joins moves
  where
    turns : (a : Action Amount) → plain (Add (pos c.ratio *ℤ added (change a))) ≡ change (lot_action c.ratio a)
    turns (amount d) = ap (λ z. plain (Add (pos c.ratio *ℤ z))) (added_plain d)

    small : (a : Action Amount) → Small c.limit a → Small (full c) (lot_action c.ratio a)
    small (amount d) h = times_small c.ratio c.limit d c.positive h

    joins : (a b : Action Amount) → lot_action c.ratio (both a b) ≡ both (lot_action c.ratio a) (lot_action c.ratio b)
    joins (amount d) (amount d') = ap amount (times_sum c.ratio d d')

    moves : (a : Action Amount) (y x w : ℕ) → Small c.limit a → Related (lots c) (many c) (λ y x. x ≡ c.ratio * y + c.rest) y x → after c.limit (change a) y ≡ Some w →
        (v : ℕ) × (after (full c) (change (lot_action c.ratio a)) x ≡ Some v) × (v ≡ c.ratio * w + c.rest)
    moves (amount d) y x w h r p =
        let s = within_some c.limit (pos y +ℤ d) w (sym (after_add c.limit d y r.0) ∙ p) in
        let b = back_values c.ratio c.limit c.rest x y w d c.below r.2 s.0 s.1 in
        let v = c.ratio * w + c.rest in
        (v, after_add (full c) (pos c.ratio *ℤ d) x r.1 ∙ some_within (full c) (pos x +ℤ pos c.ratio *ℤ d) v b.1 b.0, refl)

-- the quotient and the remainder are the only ones
pub rounds_down : RoundsDown
rounds_down t q n r h = (
  (λ e.
      let ups = ap up e in
      let downs = ap down e in
      floor_only t q n r h (omega (arith, sum_is_lem (pos n *ℤ q) (pos r), times_is n q))),
  (λ p s.
      let is = subst (λ o. n * up o + r + down t ≡ up t + n * down o) p (subst (λ o. n * up (floor t n) + o + down t ≡ up t + n * down (floor t n)) s (floor_is t n (omega arith))) in
      same_in t (pos n *ℤ q +ℤ pos r) (omega (arith, sum_is_lem (pos n *ℤ q) (pos r), times_is n q))),
)

left_sends : Sends (from Right carrying)
left_sends =
    translation_sends lots many carrying.fresh (λ c y x. carrying.agrees c x y) (λ c y x. x ≡ c.ratio * y + c.rest) (λ c p. plain (Add (pos c.ratio *ℤ added p)))
    (λ c y x a. (a.1, a.0, a.2)) (λ c y x a. (a.1, a.0, a.2)) multiplies

pub carry_lawful : Lawful carrying
carry_lawful = record {
  starts = λ c. (omega arith, omega arith, omega (arith, mul-zero c.ratio));
  bounded = λ c x y a. (a.0, a.1);
  resets = λ c. refl;
  kinds = build_kinds;
  sends = λ side. elim side as (λ o. Sends (from o carrying)) [ Left ↦ right_sends | Right ↦ left_sends ];
}

-- ---- what the code finds

-- an admitted change is split up with the memory
pub right_at : (c : Carry) (k : Kind) (e p : Change) → k ≡ many c → Ok p ≡ admitted k e → carrying.rightward c e ≡ split_up c (pos c.rest +ℤ added p)
right_at c k e p k_is h =
    let a = admitted_out (many c) e p (h ∙ ap (λ o. admitted o e) k_is) in
    ap (λ b. cond b (split_up c (pos c.rest +ℤ added (plain e))) (refused NotOfKind)) a.0 ∙ ap (λ o. split_up c (pos c.rest +ℤ added o)) a.1

-- the lots that the split finds are added, or refused
abbrev pub Found : Carry → ℤ → Result Change CarryRefusal → Type 0
Found c t r = r ≡ cond (nat_le (unsigned_abs (floor t c.ratio)) c.limit) (Ok (plain (Add (floor t c.ratio)))) (Err NoTranslation)

pub split_sent : (c d : Carry) (t : ℤ) (a : Change) → Found c t (Ok a) → c.ratio ≡ d.ratio → c.limit ≡ d.limit → remainder t c.ratio ≡ d.rest → split_up c t ≡ sent a d
split_sent c d t a h p q r = go (nat_le (unsigned_abs (floor t c.ratio)) c.limit) h
  where
    go : (b : Bool) → Ok a ≡ cond b (Ok (plain (Add (floor t c.ratio)))) (Err NoTranslation) →
        cond b (sent (plain (Add (floor t c.ratio))) (with_rest c (remainder t c.ratio) (remainder_below t c.ratio c.positive))) (refused NoTranslation) ≡ sent a d
    go true e = ap₂ sent (cc e) (carry_same _ d p q r)
    go false e = absurd (let z : ◌≡◌ {A = ℕ} 0 1 = cc e in omega arith)

pub split_refused : (c : Carry) (t : ℤ) (n : CarryRefusal) → Found c t (Err n) → split_up c t ≡ refused n
split_refused c t n h = go (nat_le (unsigned_abs (floor t c.ratio)) c.limit) h
  where
    go : (b : Bool) → Err n ≡ cond b (Ok (plain (Add (floor t c.ratio)))) (Err NoTranslation) →
        cond b (sent (plain (Add (floor t c.ratio))) (with_rest c (remainder t c.ratio) (remainder_below t c.ratio c.positive))) (refused NoTranslation) ≡ refused n
    go true e = absurd (let z : ◌≡◌ {A = ℕ} 0 1 = cc e in omega arith)
    go false e = ap refused (cc e)

-- an admitted change, which adds d, is multiplied, and its product is small
pub left_at : (c : Carry) (k : Kind) (e p : Change) (d : ℤ) → k ≡ lots c → Ok p ≡ admitted k e → d ≡ added p → (carrying.leftward c e ≡ sent (plain (Add (pos c.ratio *ℤ d))) c) × (c.ratio * unsigned_abs d ≤ 2000000001)
left_at c k e p d k_is h d_is =
    let a = admitted_out (lots c) e p (h ∙ ap (λ o. admitted o e) k_is) in
    let is : added (plain e) ≡ d = ap added a.1 ∙ sym d_is in
    let s : unsigned_abs d ≤ c.limit = subst (λ z. unsigned_abs z ≤ c.limit) is (kind_adds c.limit (lots_small c) e a.0).1 in (
      translated_at (lots c) (λ o. plain (Add (pos c.ratio *ℤ added o))) c e a.0 ∙ ap (λ z. sent (plain (Add (pos c.ratio *ℤ z))) c) is,
      omega (arith, mul-le c.ratio (unsigned_abs d) c.ratio (c.limit + 1) (omega arith) (omega arith)),
    )

-- the sum of memory and amount, by way of 64 bits
pub sum_at : (rest : ℕ) (d f g : ℤ) → rest < 2 ^ 32 → FitsSigned w32 d → f ≡ pos rest → g ≡ to_z w32 (of_z w32 d) → to_z w64 (of_z w64 (to_z w64 (of_z w64 f) +ℤ to_z w64 (of_z w64 g))) ≡ pos rest +ℤ d
sum_at rest d f g h i p q = omega (arith, ints)

pub found_at : (c : Carry) (s t q : ℤ) (r : Result Change CarryRefusal) → s ≡ t → FitsSigned w64 q → q ≡ floor s c.ratio →
    r ≡ cond (nat_le (unsigned_abs (to_z w64 (of_z w64 q))) c.limit) (Ok (plain (Add (to_z w64 (of_z w64 q))))) (Err NoTranslation) → Found c t r
found_at c s t q r same fits q_is h =
    h ∙ ap (λ k. cond (nat_le (unsigned_abs k) c.limit) (Ok (plain (Add k))) (Err NoTranslation)) (to_z-of_z w64 q fits ∙ q_is ∙ ap (λ k. floor k c.ratio) same)

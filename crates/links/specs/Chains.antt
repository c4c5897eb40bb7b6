-- Two links one after the other are lawful.
use Rattle.std.specs.Prelude.{◌≡◌, ℕ, ◌≤◌, Bool, true, false, Some, Ok, refl}
use Rattle.std.proofs.Common.{sym, ap, subst, ◌∙◌, arith}
use Rattle.kinds.proofs.Same.{decides_same}
use Rattle.kinds.specs.declared.change.Change.{Change}
use Rattle.kinds.specs.declared.change.Change.TheVariants.{Keep}
use Rattle.kinds.specs.Changes.{plain}
use Rattle.kinds.specs.Kinds.{blank, same_kind, of_kind, apply, fold}
use Rattle.links.specs.declared.chain.Chain.{Chain}
use Rattle.links.specs.declared.refusal.CarryRefusal.TheVariants.{NotOfKind}
use Rattle.kinds.specs.declared.side.Side.TheVariants.{Left, Right}
use Rattle.links.specs.Laws.{Carried, sent, refused, Way, Lens, from, Sends, Lawful}
use Rattle.links.specs.Translations.{translated}
use Rattle.links.specs.Layers.{put, chain, in_turn, joined, Through, kind_if, agree_if, carry_if, chained}
use Rattle.links.specs.TranslationsLemmas.{never_sent, follows_to}
use Rattle.links.specs.Passing.{blank_sends}

-- an answer of each makes an answer of both
both_sent : {S T C : Type 0} (pair : S → T → C) (r : Carried S) (next : Change → Carried T) (s : S) (t : T) (m f : Change) → r ≡ sent m s → next m ≡ sent f t → in_turn pair r next ≡ sent f (pair s t)
both_sent pair r next s t m f p q = ap (λ o. in_turn pair o next) p ∙ ap (put (pair s)) q

-- Two links in one value c, which `one` and `two` take apart, in the order in which they carry.
module _ {S T C : Type 0} (pair : S → T → C) (one : C → S) (two : C → T) (one_is : (s : S) (t : T) → one (pair s t) ≡ s) (two_is : (s : S) (t : T) → two (pair s t) ≡ t) where
  put_sent : (s : S) (r : Carried T) (c : C) (f : Change) → put (pair s) r ≡ sent f c → (s ≡ one c) × (r ≡ sent f (two c))
  put_sent s (sent g t) c f h =
      let c_is : pair s t ≡ c = cc h in
      let f_is : g ≡ f = cc h in
      (sym (one_is s t) ∙ ap one c_is, ap (sent g) (sym (two_is s t) ∙ ap two c_is) ∙ ap (λ o. sent o (two c)) f_is)
  put_sent s (refused n) c f h = absurd (never_sent n c f h)

  -- an answer of both came of an answer of each
  in_turn_sent : (r : Carried S) (next : Change → Carried T) (c : C) (f : Change) → in_turn pair r next ≡ sent f c → (m : Change) × (r ≡ sent m (one c)) × (next m ≡ sent f (two c))
  in_turn_sent (sent m s) next c f h = let p = put_sent s (next m) c f h in (m, ap (sent m) p.0, p.1)
  in_turn_sent (refused n) next c f h = absurd (never_sent n c f h)

-- One direction of a chain: `way` carries first, and then `way'`. Where the test fails, the kinds are blank.
module _ {S T C : Type 0} (pair : S → T → C) (one : C → S) (two : C → T) (one_is : (s : S) (t : T) → one (pair s t) ≡ s) (two_is : (s : S) (t : T) → two (pair s t) ≡ t) (whole : (c : C) → pair (one c) (two c) ≡ c)
    (way : Way S) (law : Sends way) (kinds : (s t : S) → way.fresh s ≡ way.fresh t → (way.near s ≡ way.near t) × (way.far s ≡ way.far t)) (way' : Way T) (law' : Sends way')
    (test : C → Bool) (one_kind : (c : C) → test c ≡ true → way.far (one c) ≡ way'.near (two c)) (steady : (c d : C) → pair (way.fresh (one c)) (way'.fresh (two c)) ≡ pair (way.fresh (one d)) (way'.fresh (two d)) → test c ≡ test d)
    (joins : C → ℕ → ℕ → Type 0) (apart : (c : C) (x y : ℕ) → test c ≡ true → joins c x y → (z : ℕ) × way.agrees (one c) x z × way'.agrees (two c) z y) (join : (c : C) (x y z : ℕ) → test c ≡ true → way.agrees (one c) x z → way'.agrees (two c) z y → joins c x y)
    (none : (c : C) (x y : ℕ) → test c ≡ false → joins c x y → (x ≡ 0) × (y ≡ 0)) (some : (c : C) (x y : ℕ) → test c ≡ false → (x ≡ 0) × (y ≡ 0) → joins c x y) where
  abbrev both : C → Change → Carried C
  both c e = in_turn pair (way.carry (one c) e) (way'.carry (two c))

  abbrev chain_way : Way C
  chain_way = record {
    near = λ c. kind_if (test c) (way.near (one c));
    far = λ c. kind_if (test c) (way'.far (two c));
    fresh = λ c. pair (way.fresh (one c)) (way'.fresh (two c));
    agrees = joins;
    carry = λ c e. carry_if (test c) (both c e) c e;
  }

  off : Sends (record { near = λ (c : C). blank; far = λ c. blank; fresh = chain_way.fresh; agrees = λ c x y. (x ≡ 0) × (y ≡ 0); carry = λ c. translated blank (λ p. p) c })
  off = blank_sends chain_way.fresh

  came : (c d : C) (e f : Change) → both c e ≡ sent f d → (m : Change) × (way.carry (one c) e ≡ sent m (one d)) × (way'.carry (two c) m ≡ sent f (two d))
  came c d e f h = in_turn_sent pair one two one_is two_is (way.carry (one c) e) (way'.carry (two c)) d f h

  both_in : (c u : C) (a m b : Change) → way.carry (one c) a ≡ sent m (one u) → way'.carry (two c) m ≡ sent b (two u) → both c a ≡ sent b u
  both_in c u a m b p q = both_sent pair (way.carry (one c) a) (way'.carry (two c)) (one u) (two u) m b p q ∙ ap (sent b) (whole u)

  both_keeps : (c d : C) (e f : Change) → both c e ≡ sent f d → chain_way.fresh d ≡ chain_way.fresh c
  both_keeps c d e f h =
      let l = came c d e f h in
      ap (λ s. pair s (way'.fresh (two d))) (law.keeps (one c) (one d) e l.0 l.1) ∙ ap (pair (way.fresh (one c))) (law'.keeps (two c) (two d) l.0 f l.2)

  keeps : (c d : C) (e f : Change) → chain_way.carry c e ≡ sent f d → chain_way.fresh d ≡ chain_way.fresh c
  keeps c d e f h = go (test c) h
    where
      go : (b : Bool) → carry_if b (both c e) c e ≡ sent f d → chain_way.fresh d ≡ chain_way.fresh c
      go true r = both_keeps c d e f r
      go false r = off.keeps c d e f r

  both_follows : (c : C) (x y v : ℕ) (e : Change) → test c ≡ true → joins c x y → apply (way.near (one c)) e x ≡ Ok v → (d : C) × (f : Change) × (u : ℕ) × (both c e ≡ sent f d) × (apply (way'.far (two c)) f y ≡ Ok u) × joins d v u
  both_follows c x y v e on a h =
      let z = apart c x y on a in
      let l = law.follows (one c) x z.0 v e z.1 h in
      let r = law'.follows (two c) z.0 y l.2 l.1 z.2 (subst (λ k. apply k l.1 z.0 ≡ Ok l.2) (one_kind c on) l.4) in
      let d = pair l.0 r.0 in
      let went = both_sent pair (way.carry (one c) e) (way'.carry (two c)) l.0 r.0 l.1 r.1 l.3 r.3 in
      let near_agrees = subst (λ s. way.agrees s v l.2) (sym (one_is l.0 r.0)) l.5 in
      let far_agrees = subst (λ t. way'.agrees t l.2 r.2) (sym (two_is l.0 r.0)) r.5 in
      (d, r.1, r.2, went, r.4, join d v r.2 l.2 (steady d c (both_keeps c d e r.1 went) ∙ on) near_agrees far_agrees)

  follows : (c : C) (x y v : ℕ) (e : Change) → joins c x y → apply (chain_way.near c) e x ≡ Ok v → (d : C) × (f : Change) × (u : ℕ) × (chain_way.carry c e ≡ sent f d) × (apply (chain_way.far c) f y ≡ Ok u) × joins d v u
  follows c x y v e a h = go (test c) refl h
    where
      go : (b : Bool) → test c ≡ b → apply (kind_if b (way.near (one c))) e x ≡ Ok v → (d : C) × (f : Change) × (u : ℕ) × (carry_if b (both c e) c e ≡ sent f d) × (apply (kind_if b (way'.far (two c))) f y ≡ Ok u) × joins d v u
      go true t r = both_follows c x y v e t a r
      go false t r =
          let l = off.follows c x y v e (none c x y t a) r in
          (l.0, l.1, l.2, l.3, l.4, some l.0 v l.2 (steady l.0 c (off.keeps c l.0 e l.1 l.3) ∙ t) l.5)

  both_folds : (c d u : C) (x y v z : ℕ) (e f g h : Change) → test c ≡ true → joins c x y → apply (way.near (one c)) e x ≡ Ok v → apply (way.near (one c)) f v ≡ Ok z → both c e ≡ sent g d → both d f ≡ sent h u →
      (a b : Change) × (fold (way.near (one c)) e f ≡ Ok (Some a)) × (fold (way'.far (two c)) g h ≡ Ok (Some b)) × (both c a ≡ sent b u)
  both_folds c d u x y v z e f g h on a p q e_sent f_sent =
      let is = one_kind c on in
      let mid = apart c x y on a in
      let i = came c d e g e_sent in
      let j = came d u f h f_sent in
      -- the first link at d has the build that it has at c
      let k = kinds (one c) (one d) (sym (law.keeps (one c) (one d) e i.0 i.1)) in
      -- the middle values
      let l = follows_to way law.follows (one c) (one d) x mid.0 v e i.0 mid.1 p i.1 in
      let r = follows_to way law.follows (one d) (one u) v l.0 z f j.0 l.2 (subst (λ n. apply n f v ≡ Ok z) k.0 q) j.1 in
      let first = law.folds (one c) (one d) (one u) x mid.0 v z e f i.0 j.0 mid.1 p q i.1 j.1 in
      let i_applies = subst (λ n. apply n i.0 mid.0 ≡ Ok l.0) is l.1 in
      let j_applies = subst (λ n. apply n j.0 l.0 ≡ Ok r.0) (sym k.1 ∙ is) r.1 in
      let second = law'.folds (two c) (two d) (two u) mid.0 y l.0 r.0 i.0 j.0 g h mid.2 i_applies j_applies i.2 j.2 in
      let middle_fold : fold (way'.near (two c)) i.0 j.0 ≡ Ok (Some first.1) = subst (λ n. fold n i.0 j.0 ≡ Ok (Some first.1)) is first.3 in
      let one_fold : second.0 ≡ first.1 = cc (middle_fold, second.2) in
      (first.0, second.1, first.2, second.3, both_in c u first.0 first.1 second.1 first.4 (subst (λ o. way'.carry (two c) o ≡ sent second.1 (two u)) one_fold second.4))

  folds : (c d u : C) (x y v z : ℕ) (e f g h : Change) → joins c x y → apply (chain_way.near c) e x ≡ Ok v → apply (chain_way.near c) f v ≡ Ok z → chain_way.carry c e ≡ sent g d → chain_way.carry d f ≡ sent h u →
      (a b : Change) × (fold (chain_way.near c) e f ≡ Ok (Some a)) × (fold (chain_way.far c) g h ≡ Ok (Some b)) × (chain_way.carry c a ≡ sent b u)
  folds c d u x y v z e f g h a p q e_sent f_sent = go (test c) refl p q e_sent (subst (λ b. carry_if b (both d f) d f ≡ sent h u) (steady d c (keeps c d e g e_sent)) f_sent)
    where
      go : (b : Bool) → test c ≡ b → apply (kind_if b (way.near (one c))) e x ≡ Ok v → apply (kind_if b (way.near (one c))) f v ≡ Ok z → carry_if b (both c e) c e ≡ sent g d → carry_if b (both d f) d f ≡ sent h u →
          (a b' : Change) × (fold (kind_if b (way.near (one c))) e f ≡ Ok (Some a)) × (fold (kind_if b (way'.far (two c))) g h ≡ Ok (Some b')) × (carry_if b (both c a) c a ≡ sent b' u)
      go true t r s i j = both_folds c d u x y v z e f g h t a r s i j
      go false t r s i j = off.folds c d u x y v z e f g h (none c x y t a) r s i j

  still : (c : C) (e : Change) → plain e ≡ Keep → chain_way.carry c e ≡ sent Keep c
  still c e h = go (test c)
    where
      go : (b : Bool) → carry_if b (both c e) c e ≡ sent Keep c
      go true = both_in c c e Keep Keep (law.still (one c) e h) (law'.still (two c) Keep refl)
      go false = off.still c e h

  refuses : (c : C) (e : Change) → of_kind (chain_way.near c) e ≡ false → chain_way.carry c e ≡ refused NotOfKind
  refuses c e h = go (test c) h
    where
      go : (b : Bool) → of_kind (kind_if b (way.near (one c))) e ≡ false → carry_if b (both c e) c e ≡ refused NotOfKind
      go true r = ap (λ o. in_turn pair o (way'.carry (two c))) (law.refuses (one c) e r)
      go false r = off.refuses c e r

  answers : (c d : C) (e f : Change) → chain_way.carry c e ≡ sent f d → (plain f ≡ f) × (of_kind (chain_way.far c) f ≡ true)
  answers c d e f h = go (test c) h
    where
      go : (b : Bool) → carry_if b (both c e) c e ≡ sent f d → (plain f ≡ f) × (of_kind (kind_if b (way'.far (two c))) f ≡ true)
      go true r = let l = came c d e f r in law'.answers (two c) (two d) l.0 f l.2
      go false r = off.answers c d e f r

  chain_sends : Sends chain_way
  chain_sends = record { follows = follows; still = still; folds = folds; refuses = refuses; answers = answers; keeps = keeps }

module _ {S T : Type 0} (l : Lens S) (first : Lawful l) (m : Lens T) (second : Lawful m) where
  abbrev test : Chain S T → Bool
  test = joined l m

  abbrev link : Lens (Chain S T)
  link = chained l m

  one_kind : (c : Chain S T) → test c ≡ true → l.right c.first ≡ m.left c.second
  one_kind c on = (decides_same (l.right c.first) (m.left c.second)).0 on

  parts : (c d : Chain S T) → link.fresh c ≡ link.fresh d → (l.left c.first ≡ l.left d.first) × (l.right c.first ≡ l.right d.first) × (m.left c.second ≡ m.left d.second) × (m.right c.second ≡ m.right d.second)
  parts c d h =
      let a = first.kinds c.first d.first (ap (λ (o : Chain S T). o.first) h) in
      let b = second.kinds c.second d.second (ap (λ (o : Chain S T). o.second) h) in
      (a.0, a.1, b.0, b.1)

  steady : (c d : Chain S T) → link.fresh c ≡ link.fresh d → test c ≡ test d
  steady c d h = let p = parts c d h in ap (λ k. same_kind k (m.left c.second)) p.1 ∙ ap (same_kind (l.right d.first)) p.2

  pub agrees_on : (c : Chain S T) (x y : ℕ) (b : Bool) → test c ≡ b → link.agrees c x y → agree_if b (Through l m c x y) x y
  agrees_on c x y b on a = subst (λ o. agree_if o (Through l m c x y) x y) on a

  pub agrees_off : (c : Chain S T) (x y : ℕ) (b : Bool) → test c ≡ b → agree_if b (Through l m c x y) x y → link.agrees c x y
  agrees_off c x y b on a = subst (λ o. agree_if o (Through l m c x y) x y) (sym on) a

  starts_at : (c : Chain S T) (b : Bool) → agree_if b (Through l m (link.fresh c) 0 0) 0 0
  starts_at c true = (0, first.starts c.first, second.starts c.second)
  starts_at c false = (refl, refl)

  bounded_at : (c : Chain S T) (x y : ℕ) (b : Bool) → agree_if b (Through l m c x y) x y → (x ≤ (kind_if b (l.left c.first)).limit) × (y ≤ (kind_if b (m.right c.second)).limit)
  bounded_at c x y true a = ((first.bounded c.first x a.0 a.1).0, (second.bounded c.second a.0 y a.2).1)
  bounded_at c x y false a = (omega arith, omega arith)

  pub chain_lawful : Lawful (chained l m)
  chain_lawful = record {
    starts = λ c. starts_at c (test (link.fresh c));
    bounded = λ c x y a. bounded_at c x y (test c) a;
    resets = λ c. ap (λ s. chain s (m.fresh (m.fresh c.second))) (first.resets c.first) ∙ ap (chain (l.fresh c.first)) (second.resets c.second);
    kinds = λ c d h.
        let p = parts c d h in
        let t = steady c d h in
        (ap (λ o. kind_if o (l.left c.first)) t ∙ ap (kind_if (test d)) p.0, ap (λ o. kind_if o (m.right c.second)) t ∙ ap (kind_if (test d)) p.3);
    sends = λ side. elim side as (λ o. Sends (from o (chained l m))) [
      | Left ↦ chain_sends (λ s t. chain s t) (λ c. c.first) (λ c. c.second) (λ s t. refl) (λ s t. refl) (λ c. refl)
          (from Left l) (first.sends Left) first.kinds (from Left m) (second.sends Left) test one_kind steady
          link.agrees (λ c x y on a. agrees_on c x y true on a) (λ c x y z on a b. agrees_off c x y true on (z, a, b)) (λ c x y t a. agrees_on c x y false t a) (λ c x y t a. agrees_off c x y false t a)
      | Right ↦ chain_sends (λ t s. chain s t) (λ c. c.second) (λ c. c.first) (λ s t. refl) (λ s t. refl) (λ c. refl)
          (from Right m) (second.sends Right) (λ s t h. let k = second.kinds s t h in (k.1, k.0)) (from Right l) (first.sends Right) test (λ c on. sym (one_kind c on)) steady
          (λ c y x. link.agrees c x y) (λ c y x on a. let k = agrees_on c x y true on a in (k.0, k.2, k.1)) (λ c y x z on a b. agrees_off c x y true on (z, b, a))
          (λ c y x t a. let k = agrees_on c x y false t a in (k.1, k.0)) (λ c y x t a. agrees_off c x y false t (a.1, a.0))
    ];
  }

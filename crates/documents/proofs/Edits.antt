-- An edit that is tried on a document is done exactly where it acts on it.
use Rattle.std.proofs.Common.{◌≡◌, ℕ, ltb, leb, List, length, get_or, Ok, sym, ap}
use Rattle.std.proofs.lemmas.Bool.{leb-true, ltb-true, le-leb, lt-ltb}
use Rattle.kinds.specs.Answers.{test, need}
use Rattle.kinds.specs.Kinds.{apply}
use Rattle.kinds.specs.declared.kind.Kind.{Kind}
use Rattle.frames.specs.declared.refusal.FrameRefusal.TheVariants.{RemarkFromTable}
use Rattle.frames.specs.Edits.{Edit, keep, insert, remark, delete, move, change}
use Rattle.documents.specs.declared.fault.Fault.TheVariants.{NotAFrame, NotInDocument, NotARecord, NotOfKind}
use Rattle.documents.specs.Documents.{item, Form, Acts}
use Rattle.documents.specs.Attempts.{kind_answer, tried}
use Rattle.documents.proofs.Answers.{bind_ok, need_ok, test_ok, kind_ok}

module _ {X : Type 0} (F : Form X) (kinds : ℕ → Kind) (told_at : ℕ → ℕ) where
  pub tried_acts : (op : Edit) (xs ys : List X) → tried F kinds told_at op xs ≡ Ok ys → Acts F kinds op xs ys
  tried_acts keep xs ys e = cc e
  tried_acts (insert p) xs ys e =
      let a = bind_ok (test (leb p (length xs)) (NotInDocument (told_at p))) _ ys e in
      (leb-true p (length xs) (test_ok _ _ _ a.1), cc a.2)
  tried_acts (remark p t) xs ys e =
      let a = bind_ok (need (F.of_text t) (NotAFrame RemarkFromTable)) _ ys e in
      let b = bind_ok (test (leb p (length xs)) (NotInDocument (told_at p))) _ ys a.2 in
      (a.0, need_ok _ _ _ a.1, leb-true p (length xs) (test_ok _ _ _ b.1), cc b.2)
  tried_acts (delete p) xs ys e =
      let a = bind_ok (test (ltb p (length xs)) (NotInDocument (told_at p))) _ ys e in
      (ltb-true p (length xs) (test_ok _ _ _ a.1), cc a.2)
  tried_acts (move p q) xs ys e =
      let a = bind_ok (test (ltb p (length xs)) (NotInDocument (told_at p))) _ ys e in
      let b = bind_ok (test (ltb q (length xs)) (NotInDocument (told_at q))) _ ys a.2 in
      (ltb-true p (length xs) (test_ok _ _ _ a.1), ltb-true q (length xs) (test_ok _ _ _ b.1), cc b.2)
  tried_acts (change p c e) xs ys h =
      let a = bind_ok (need (item xs p) (NotInDocument (told_at p))) _ ys h in
      let b = bind_ok (need (F.row a.0) (NotARecord (told_at p))) _ ys a.2 in
      let l = bind_ok (test (ltb c 4) (NotOfKind (told_at p) c)) _ ys b.2 in
      let v = bind_ok (kind_answer (told_at p) c (apply (kinds c) e (get_or b.0 c 0))) _ ys l.2 in
      (a.0, b.0, v.0, need_ok _ _ _ a.1, need_ok _ _ _ b.1, ltb-true c 4 (test_ok _ _ _ l.1), kind_ok _ _ _ _ v.1, cc v.2)

  pub acts_tried : (op : Edit) (xs ys : List X) → Acts F kinds op xs ys → tried F kinds told_at op xs ≡ Ok ys
  acts_tried keep xs ys a = ap Ok (sym a)
  acts_tried (insert p) xs ys a = rw (le-leb p (length xs) a.0) (ap Ok (sym a.1))
  acts_tried (remark p t) xs ys a = rw (a.1, le-leb p (length xs) a.2) (ap Ok (sym a.3))
  acts_tried (delete p) xs ys a = rw (lt-ltb p (length xs) a.0) (ap Ok (sym a.1))
  acts_tried (move p q) xs ys a = rw (lt-ltb p (length xs) a.0, lt-ltb q (length xs) a.1) (ap Ok (sym a.2))
  acts_tried (change p c e) xs ys a = rw (a.3, a.4, lt-ltb c 4 a.5, a.6) (ap Ok (sym a.7))

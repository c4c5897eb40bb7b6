-- The numbers and the paths of the faults, and the faults that the refusals of a kind and of a link come to.
use Rattle.std.specs.Prelude.{ℕ, Some, None, Option}
use Rattle.kinds.specs.declared.refusal.Refusal.{Refusal}
use Rattle.kinds.specs.declared.refusal.Refusal.TheVariants.{NotOfKind as not_of_kind, DoesNotApply as does_not_apply, NoSuchKind as no_such_kind}
use Rattle.links.specs.declared.refusal.CarryRefusal.{CarryRefusal}
use Rattle.links.specs.declared.refusal.CarryRefusal.TheVariants.{NotOfKind as not_carried, NoTranslation as no_translation}
use Rattle.documents.specs.declared.fault.Fault.{Fault}
use Rattle.documents.specs.declared.fault.Fault.TheVariants.{NotAFrame, NotInDocument, SheetFull, NotARecord, NotOfKind, DoesNotApply, NoTranslation}

-- the number of each fault, which is also the order in which the tests are tried
abbrev pub fault_number : Fault → ℕ
fault_number (NotAFrame refusal) = 4
fault_number (NotInDocument p) = 5
fault_number (SheetFull p) = 6
fault_number (NotARecord p) = 7
fault_number (NotOfKind p c) = 8
fault_number (DoesNotApply p c) = 9
fault_number (NoTranslation p c) = 10

-- the position that is at fault
abbrev pub fault_position : Fault → Option ℕ
fault_position (NotAFrame refusal) = None
fault_position (NotInDocument p) = Some p
fault_position (SheetFull p) = Some p
fault_position (NotARecord p) = Some p
fault_position (NotOfKind p c) = Some p
fault_position (DoesNotApply p c) = Some p
fault_position (NoTranslation p c) = Some p

-- the column that is at fault
abbrev pub fault_column : Fault → Option ℕ
fault_column (NotAFrame refusal) = None
fault_column (NotInDocument p) = None
fault_column (SheetFull p) = None
fault_column (NotARecord p) = None
fault_column (NotOfKind p c) = Some c
fault_column (DoesNotApply p c) = Some c
fault_column (NoTranslation p c) = Some c

-- what a kind's refusal is at a position and a column; no kind is made there, so the last does not come
abbrev pub kind_fault : ℕ → ℕ → Refusal → Fault
kind_fault p c not_of_kind = NotOfKind p c
kind_fault p c does_not_apply = DoesNotApply p c
kind_fault p c no_such_kind = NotOfKind p c

-- what a link's refusal is at a position and a column
abbrev pub link_fault : ℕ → ℕ → CarryRefusal → Fault
link_fault p c not_carried = NotOfKind p c
link_fault p c no_translation = NoTranslation p c

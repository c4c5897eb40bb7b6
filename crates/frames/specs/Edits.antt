-- An operation as the rules speak of it: a remark's text is a list of bytes.
use Rattle.std.specs.Prelude.{ℕ, List}
use Rattle.kinds.specs.declared.change.Change.{Change}
use Rattle.frames.specs.declared.frame.Operation.{Operation}
use Rattle.frames.specs.declared.frame.Operation.TheVariants.{Keep, Insert, Remark, Delete, Move, Change as Alter}

pub data Edit : Type 0 where
  keep : Edit
  insert : ℕ → Edit
  remark : ℕ → List ℕ → Edit
  delete : ℕ → Edit
  move : ℕ → ℕ → Edit
  change : ℕ → ℕ → Change → Edit

-- the edit that an operation stands for
abbrev pub edit : Operation → Edit
edit Keep = keep
edit (Insert at) = insert at
edit (Remark at text) = remark at text.now
edit (Delete at) = delete at
edit (Move from to) = move from to
edit (Alter at column e) = change at column e

-- The worked cases of carrying an edit across.
use Rattle.std.specs.Prelude.{◌≡◌, List, [], ◌∷◌}
use Rattle.kinds.specs.declared.side.Side.TheVariants.{Left, Right}
use Rattle.frames.specs.Edits.{keep, insert, delete, move}
use Rattle.documents.specs.Documents.{Line, record_line, remark_line, zeros}
use Rattle.documents.specs.Across.{told}

-- a remark, a record, a remark and a record
abbrev pub four_lines : List Line
four_lines = remark_line [] ∷ record_line zeros ∷ remark_line [] ∷ record_line zeros ∷ []

-- What edits of the sheet with these lines, and of its table, are told as.
pub record Worked (lines : List Line) : Type 0 where
  pub last_deleted : told Left lines (delete 3) ≡ delete 1
  pub past_a_remark : told Left lines (move 1 0) ≡ keep
  pub before_the_last : told Right lines (insert 1) ≡ insert 3
  pub at_the_end : told Right lines (insert 2) ≡ insert 4
  pub to_the_end : told Right lines (move 0 1) ≡ move 1 3
  pub to_itself : told Right lines (move 1 1) ≡ keep

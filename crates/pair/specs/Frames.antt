-- How long the text of a frame is.
use Rattle.std.specs.Prelude.{◌≤◌, length}
use Rattle.frames.specs.Edits.{Edit, keep, insert, remark, delete, move, change}

-- the text, if there is one, has a place in a remark
abbrev pub Short : Edit → Type 0
Short keep = Unit {0}
Short (insert p) = Unit {0}
Short (remark p text) = length text ≤ 24
Short (delete p) = Unit {0}
Short (move p q) = Unit {0}
Short (change p c e) = Unit {0}

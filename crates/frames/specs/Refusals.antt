-- The numbers of the refusals.
use Rattle.std.specs.Prelude.{ℕ}
use Rattle.frames.specs.declared.refusal.LineRefusal.{LineRefusal}
use Rattle.frames.specs.declared.refusal.LineRefusal.TheVariants.{TooLong, NotHexadecimal, ShortBuffer}
use Rattle.frames.specs.declared.refusal.FrameRefusal.{FrameRefusal}
use Rattle.frames.specs.declared.refusal.FrameRefusal.TheVariants.{WrongLength, UnknownSide, UnknownOperation, RemarkFromTable, UnprintableText, UnknownChange, KeepWithOperand}

-- a line that does not give bytes
abbrev pub line_number : LineRefusal → ℕ
line_number TooLong = 2
line_number NotHexadecimal = 3
line_number ShortBuffer = 12

-- bytes that are not a frame: one number, whatever the reason
abbrev pub frame_number : FrameRefusal → ℕ
frame_number WrongLength = 4
frame_number UnknownSide = 4
frame_number UnknownOperation = 4
frame_number RemarkFromTable = 4
frame_number UnprintableText = 4
frame_number UnknownChange = 4
frame_number KeepWithOperand = 4

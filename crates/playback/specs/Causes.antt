-- Why a line of a log is refused: the number and the path of each cause.
use Rattle.std.specs.Prelude.{ℕ, None, Option}
use Rattle.frames.specs.Refusals.{line_number}
use Rattle.documents.specs.Faults.{fault_number, fault_position, fault_column}
use Rattle.playback.specs.declared.fault.Cause.{Cause}
use Rattle.playback.specs.declared.fault.Cause.TheVariants.{TooManyLines, Line, Frame}

-- the number of each cause
abbrev pub cause_number : Cause → ℕ
cause_number TooManyLines = 1
cause_number (Line refusal) = line_number refusal
cause_number (Frame fault) = fault_number fault

-- the position in the frame that is at fault
abbrev pub cause_position : Cause → Option ℕ
cause_position TooManyLines = None
cause_position (Line refusal) = None
cause_position (Frame fault) = fault_position fault

-- the column that is at fault
abbrev pub cause_column : Cause → Option ℕ
cause_column TooManyLines = None
cause_column (Line refusal) = None
cause_column (Frame fault) = fault_column fault

-- The frames of a reader.
-- Source: this project's own.
use Rattle.std.specs.Prelude.{List}
use Rattle.um_operands.specs.declared.frames.Frames.{Frames}
use Rattle.um_operands.specs.ExprBegun.{Frame}
use Rattle.um_operands.specs.ExprFrames.{stack}

abbrev pub frames_of : Frames → List Frame
frames_of f = stack f.entries.items

use Rattle.std.proofs.Common.{◌≡◌, take}
use Rattle.um_operands.specs.ExprFrames.{stack}
use Rattle.um_operands.specs.Standing.{left}
use Rattle.um_operands.proofs.left.frames_left.Given as goal

abbrev pub invariant-loop-k : goal.invariant-loop-k
invariant-loop-k l = left l.limit (stack (take l.k l.frames.entries.items)) ≡ left l.limit (stack l.frames.entries.items)

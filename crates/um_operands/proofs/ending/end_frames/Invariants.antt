use Rattle.std.proofs.Common.{◌≡◌, vec_len}
use Rattle.um_operands.specs.ExprBegun.{reduce}
use Rattle.um_operands.specs.ExprOperands.{operand_expr}
use Rattle.um_operands.specs.ExprStack.{frames_of}
use Rattle.um_operands.proofs.ending.end_frames.Given as goal

abbrev pub invariant-loop-frame : goal.invariant-loop-frame
invariant-loop-frame l = reduce l.limit (frames_of l.frames) (operand_expr l.operand) ≡ reduce l.limit (frames_of l.fn.frames) (operand_expr l.fn.operand)

abbrev pub decreases-loop-frame : goal.decreases-loop-frame
decreases-loop-frame l = vec_len l.frames.entries

use Rattle.std.proofs.Common.{◌≡◌, vec_len}
use Rattle.um_unit_texts.specs.UnitFrames.{operand_syntax}
use Rattle.um_unit_texts.specs.UnitView.{frames_of}
use Rattle.um_unit_texts.specs.UnitMachine.{reduce}
use Rattle.um_unit_texts.proofs.unit_machine.end_frames.Given as goal

abbrev pub invariant-loop-frame : goal.invariant-loop-frame
invariant-loop-frame l = reduce (frames_of l.frames) (operand_syntax l.operand) ≡ reduce (frames_of l.fn.frames) (operand_syntax l.fn.operand)

abbrev pub decreases-loop-frame : goal.decreases-loop-frame
decreases-loop-frame l = vec_len l.frames.entries

use Rattle.um_unit_texts.specs.UnitFrames.{operand_syntax}
use Rattle.um_unit_texts.specs.UnitView.{frames_of}
use Rattle.um_unit_texts.proofs.UnitEnds.{none_close}
use Rattle.um_unit_texts.proofs.unit_machine.close_after.Goals as goal

pub returns-in-None : goal.returns-in-None
returns-in-None c =
    rw c.put-in-None.ensures
    (none_close (frames_of c.args.frames.now) (operand_syntax c.args.operand) (frames_of c.ended.new.frames) (frames_of c.pop_bracket.new.frames) (operand_syntax c.in_ok-inner.inner) c.in_ok-inner.ensures c.in-None.ensures)

use Rattle.um_display.proofs.FirstUnits.{same_told}
use Rattle.um_display.proofs.number.is_same.Goals as goal

pub returns : goal.returns
returns c = same_told c.args.unit.now c.args.other.now c.same.result c.same.ensures.same

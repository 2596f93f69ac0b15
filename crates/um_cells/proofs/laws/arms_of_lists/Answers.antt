use Rattle.um_cells.proofs.Operating.{arm_taken}
use Rattle.um_cells.proofs.laws.arms_of_lists.Goals as goal

pub returns : goal.returns
returns c = arm_taken

use Rattle.um_scale.proofs.RescaledFaults.{same_fault}
use Rattle.um_scale.proofs.laws.rescaled_programs.Goals as goal

pub returns : goal.returns
returns c = same_fault

use Rattle.um_scaling.proofs.ScalingLaw.{scaling_law}
use Rattle.um_scaling.proofs.laws.scaling.Goals as goal

pub returns : goal.returns
returns c = scaling_law

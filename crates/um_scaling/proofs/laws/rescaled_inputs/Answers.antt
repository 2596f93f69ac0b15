use Rattle.um_scaling.proofs.Inputs.{inputs_scaled}
use Rattle.um_scaling.proofs.laws.rescaled_inputs.Goals as goal

pub returns : goal.returns
returns c = inputs_scaled

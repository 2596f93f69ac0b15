use Rattle.um_scaling.proofs.Formed.{rescaled_is_formed}
use Rattle.um_scaling.proofs.laws.rescaled_programs.Goals as goal

pub returns : goal.returns
returns c = rescaled_is_formed

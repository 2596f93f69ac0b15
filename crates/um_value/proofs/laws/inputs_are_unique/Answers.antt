use Rattle.um_value.proofs.UniqueInputs.{inputs_are_unique}
use Rattle.um_value.proofs.laws.inputs_are_unique.Goals as goal

pub returns : goal.returns
returns c = inputs_are_unique

use Rattle.um_shape.proofs.NeverWrong.{calls_are_never_wrong, values_have_result_shape}
use Rattle.um_shape.proofs.laws.calls_of_shaped_functions.Goals as goal

pub returns-clause-never_wrong : goal.returns-clause-never_wrong
returns-clause-never_wrong c = calls_are_never_wrong

pub returns-clause-values : goal.returns-clause-values
returns-clause-values c = values_have_result_shape

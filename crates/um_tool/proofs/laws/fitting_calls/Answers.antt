use Rattle.um_tool.proofs.FittingCalls.{fitting_calls_are_meant, units_of_arguments_are_exact}
use Rattle.um_tool.proofs.laws.fitting_calls.Goals as goal

pub returns : goal.returns
returns c = record { fitting = fitting_calls_are_meant; units = units_of_arguments_are_exact }

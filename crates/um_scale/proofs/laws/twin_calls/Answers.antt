use Rattle.um_scale.proofs.RescaledCalls.{rescaled_arguments, twins_are_scaled, twins_have_free_zeros}
use Rattle.um_scale.proofs.laws.twin_calls.Goals as goal

pub returns : goal.returns
returns c = record { arguments = rescaled_arguments; scaled = twins_are_scaled; free_zeros = twins_have_free_zeros }

use Rattle.um_run.proofs.CallLaws.{calls_are_typed, refused_calls_have_no_result, fitting_calls_are_calls}
use Rattle.um_run.proofs.laws.calls.Goals as goal

pub returns : goal.returns
returns c = record { typed = calls_are_typed; refused = refused_calls_have_no_result; fitting = fitting_calls_are_calls }

use Rattle.um_run.proofs.UniqueCalls.{calls_are_unique}
use Rattle.um_run.proofs.laws.unique_calls.Goals as goal

pub returns : goal.returns
returns c = calls_are_unique

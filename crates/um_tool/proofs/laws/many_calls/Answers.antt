use Rattle.um_tool.proofs.ManyCalls.{calls_are_runs}
use Rattle.um_tool.proofs.laws.many_calls.Goals as goal

pub returns : goal.returns
returns c = calls_are_runs

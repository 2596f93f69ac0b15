use Rattle.um_tool.proofs.CallsMeant.{ended_calls_are_meant}
use Rattle.um_tool.proofs.laws.ended_calls.Goals as goal

pub returns : goal.returns
returns c = ended_calls_are_meant

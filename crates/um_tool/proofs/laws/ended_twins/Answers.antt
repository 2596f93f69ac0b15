use Rattle.um_tool.proofs.TwinsMeant.{ended_twins_are_related}
use Rattle.um_tool.proofs.laws.ended_twins.Goals as goal

pub returns : goal.returns
returns c = ended_twins_are_related

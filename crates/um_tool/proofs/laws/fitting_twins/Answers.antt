use Rattle.um_tool.proofs.FittingTwins.{fitting_twins_are_related}
use Rattle.um_tool.proofs.laws.fitting_twins.Goals as goal

pub returns : goal.returns
returns c = fitting_twins_are_related

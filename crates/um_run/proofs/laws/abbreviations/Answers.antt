use Rattle.um_run.proofs.ClosedAbbreviations.{abbreviations_are_closed}
use Rattle.um_run.proofs.laws.abbreviations.Goals as goal

pub returns : goal.returns
returns c = abbreviations_are_closed

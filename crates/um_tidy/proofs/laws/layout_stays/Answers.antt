use Rattle.um_tidy.proofs.ProgramStays.{layout_stays}
use Rattle.um_tidy.proofs.laws.layout_stays.Goals as goal

pub returns : goal.returns
returns c = layout_stays

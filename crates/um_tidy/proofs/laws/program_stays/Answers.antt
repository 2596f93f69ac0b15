use Rattle.um_tidy.proofs.ProgramStays.{program_stays}
use Rattle.um_tidy.proofs.laws.program_stays.Goals as goal

pub returns : goal.returns
returns c = program_stays

use Rattle.um_parse.proofs.ProgramComplete.{one_program}
use Rattle.um_parse.proofs.laws.programs_are_unique.Goals as goal

pub returns : goal.returns
returns c = one_program

use Rattle.um_front.proofs.Readability.{readable}
use Rattle.um_front.proofs.laws.read_programs_are_readable.Goals as goal

pub returns : goal.returns
returns c = readable

use Rattle.um_syntax.proofs.Whole.{unique_fault}
use Rattle.um_syntax.proofs.laws.fault_is_unique.Goals as goal

pub returns : goal.returns
returns c = unique_fault

use Rattle.um_check.proofs.Refutations.{valid_no_refutes}
use Rattle.um_check.proofs.laws.refusals.Goals as goal

pub returns : goal.returns
returns c = valid_no_refutes

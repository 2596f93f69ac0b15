use Rattle.um_syntax.proofs.Whole.{tokens_or_fault}
use Rattle.um_syntax.proofs.laws.tokens_exclude_fault.Goals as goal

pub returns : goal.returns
returns c = tokens_or_fault

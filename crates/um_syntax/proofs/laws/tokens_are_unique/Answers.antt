use Rattle.um_syntax.proofs.Whole.{unique_tokens}
use Rattle.um_syntax.proofs.laws.tokens_are_unique.Goals as goal

pub returns : goal.returns
returns c = unique_tokens

use Rattle.um_syntax.proofs.TokenCounts.{tokens_within}
use Rattle.um_front.proofs.laws.tokens_are_within.Goals as goal

pub returns : goal.returns
returns c = tokens_within

use Rattle.um_answers.proofs.LiteralPlaces.{literals_begin_tokens}
use Rattle.um_answers.proofs.laws.literals_begin_tokens.Goals as goal

pub returns : goal.returns
returns c = literals_begin_tokens

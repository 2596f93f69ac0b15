use Rattle.um_syntax.proofs.Whole.{tokens_make_up}
use Rattle.um_syntax.proofs.laws.tokens_make_up_text.Goals as goal

pub returns : goal.returns
returns c = tokens_make_up

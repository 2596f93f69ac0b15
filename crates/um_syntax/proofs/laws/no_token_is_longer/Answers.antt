use Rattle.um_syntax.proofs.Longest.{no_longer}
use Rattle.um_syntax.proofs.laws.no_token_is_longer.Goals as goal

pub returns : goal.returns
returns c = no_longer

use Rattle.um_tidy.proofs.TokensAnew.{tokens_stay}
use Rattle.um_tidy.proofs.laws.tokens_stay.Goals as goal

pub returns : goal.returns
returns c = tokens_stay

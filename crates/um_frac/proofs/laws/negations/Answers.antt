use Rattle.um_frac.proofs.FractionLaws.{negation_is_exact}
use Rattle.um_frac.proofs.laws.negations.Goals as goal

pub returns : goal.returns
returns c = negation_is_exact

use Rattle.um_frac.proofs.FractionLaws.{greatest_is_common}
use Rattle.um_frac.proofs.laws.greatest_is_common.Goals as goal

pub returns : goal.returns
returns c = greatest_is_common

use Rattle.um_decimals.proofs.DecimalNumbers.{decimal_is_nearest, exactly_the_fraction}
use Rattle.um_decimals.proofs.laws.decimals.Goals as goal

pub returns : goal.returns
returns c = record { nearest = decimal_is_nearest; marked = exactly_the_fraction }

use Rattle.um_decimals.proofs.Nearest.{nearest_is_nearest, one_is_nearest}
use Rattle.um_decimals.proofs.laws.nearest_numbers.Goals as goal

pub returns : goal.returns
returns c = record { nearest = nearest_is_nearest; one = one_is_nearest }

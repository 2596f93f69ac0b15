use Rattle.um_frac.proofs.FractionLaws.{difference_is_exact, difference_overflows, difference_never_div_zero}
use Rattle.um_frac.proofs.laws.differences.Goals as goal

pub returns : goal.returns
returns c = record { exact = difference_is_exact; overflow = difference_overflows; never_div_zero = difference_never_div_zero }

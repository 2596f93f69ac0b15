use Rattle.um_frac.proofs.FractionLaws.{sum_is_exact, sum_overflows, sum_never_div_zero}
use Rattle.um_frac.proofs.laws.sums.Goals as goal

pub returns : goal.returns
returns c = record { exact = sum_is_exact; overflow = sum_overflows; never_div_zero = sum_never_div_zero }

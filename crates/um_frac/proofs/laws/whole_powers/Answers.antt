use Rattle.um_frac.proofs.FractionLaws.{whole_power_is_exact, whole_power_of_zero, whole_power_overflows, power_zero_is_one}
use Rattle.um_frac.proofs.WholePowers.{powers_of_products}
use Rattle.um_frac.proofs.laws.whole_powers.Goals as goal

pub returns : goal.returns
returns c = record { exact = whole_power_is_exact; zero = whole_power_of_zero; overflow = whole_power_overflows; power_zero = power_zero_is_one; products = powers_of_products }

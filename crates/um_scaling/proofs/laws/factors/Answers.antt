use Rattle.um_scaling.proofs.Factors.{factors_are_products, factors_are_powers}
use Rattle.um_scaling.proofs.laws.factors.Goals as goal

pub returns : goal.returns
returns c = record { products = factors_are_products; powers = factors_are_powers }

use Rattle.um_frac.proofs.FractionLaws.{product_is_exact, product_overflows, product_never_div_zero}
use Rattle.um_frac.proofs.laws.products.Goals as goal

pub returns : goal.returns
returns c = record { exact = product_is_exact; overflow = product_overflows; never_div_zero = product_never_div_zero }

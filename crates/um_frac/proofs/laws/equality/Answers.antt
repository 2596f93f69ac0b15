use Rattle.um_frac.proofs.FractionLaws.{equal_parts, equal_cross_products, same_is_equal}
use Rattle.um_frac.proofs.laws.equality.Goals as goal

pub returns : goal.returns
returns c = record { parts = equal_parts; cross_products = equal_cross_products; tested = same_is_equal }

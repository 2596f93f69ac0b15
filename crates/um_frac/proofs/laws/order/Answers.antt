use Rattle.um_frac.proofs.FractionLaws.{order_is_irreflexive, order_is_transitive, order_is_total}
use Rattle.um_frac.proofs.laws.order.Goals as goal

pub returns : goal.returns
returns c = record { irreflexive = order_is_irreflexive; transitive = order_is_transitive; total = order_is_total }

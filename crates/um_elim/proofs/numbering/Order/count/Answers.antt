use Rattle.std.proofs.Common.{arith}
use Rattle.um_elim.proofs.GrowingOrder.{at_most}
use Rattle.um_elim.proofs.numbering.Order.count.Goals as goal

pub overflow_cast-result : goal.overflow_cast-result
overflow_cast-result c = let few = at_most c.self.inside.set.keys 4294967295 c.len.ensures.unique c.self.invariant in omega (arith, few)

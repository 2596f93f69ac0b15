use Rattle.um_measures.proofs.RunningProducts.{powers-none}
use Rattle.um_measures.proofs.running.RunningProduct.new.Goals as goal

pub invariant_of-result : goal.invariant_of-result
invariant_of-result c = powers-none c.new-powers.result c.new.result.items c.new-powers.ensures.empty c.new.ensures.items

use Rattle.std.proofs.Common.{arith}
use Rattle.std.proofs.lemmas.Int.{ints}
use Rattle.um_scale.proofs.scales.Scales.ones.Goals as goal

pub invariant_of-result : goal.invariant_of-result
invariant_of-result c = λ k d below. let is = (c.loop.invariant.ones k d below).0 in omega (arith, ints, is)

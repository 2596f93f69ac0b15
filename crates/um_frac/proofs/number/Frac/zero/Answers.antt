use Rattle.std.proofs.Common.{refl, arith}
use Rattle.std.proofs.lemmas.Int.{ints}
use Rattle.um_frac.specs.Gcd.{gcd}
use Rattle.um_frac.proofs.number.Frac.zero.Goals as goal

pub invariant_of-result : goal.invariant_of-result
unfolding gcd
invariant_of-result c = record { positive = omega (arith, ints); den_fits = omega (arith, ints); above = omega (arith, ints); num_fits = omega (arith, ints); lowest = refl }

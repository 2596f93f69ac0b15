use Rattle.std.proofs.Common.{◌≡◌, All, length, pos}
use Rattle.um_frac.specs.Fraction.{numerator, denominator}
use Rattle.um_scale.proofs.scales.Scales.ones.Given as goal

abbrev pub invariant-loop : goal.invariant-loop
invariant-loop l = record {
  many : length l.items.items ≡ l.counter;
  ones : All (λ c. (numerator c ≡ pos 1) × (denominator c ≡ pos 1)) l.items.items;
}

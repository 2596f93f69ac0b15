use Rattle.std.proofs.Common.{◌≡◌, drop}
use Rattle.um_scale.specs.Sizes.{product_from, factor_within}
use Rattle.um_scale.proofs.scales.Scales.factor.Given as goal

abbrev pub invariant-loop-term : goal.invariant-loop-term
invariant-loop-term l = record {
  items : l.term-items ≡ l.unit.terms;
  left : factor_within l.self l.unit ≡ product_from l.self l.product (drop l.term-index l.term-items);
}

use Rattle.std.proofs.Common.{◌≡◌, map, take, nat_abs}
use Rattle.um_units.specs.PowerMap.{product}
use Rattle.um_pivots.specs.Quotients.{less_quotient}
use Rattle.um_wide.specs.Room.{IsNarrow}
use Rattle.um_reasons.proofs.wide_step.quotients_of.Given as goal

abbrev pub invariant-loop-term : goal.invariant-loop-term
invariant-loop-term l = record {
  exact : l.by ≡ product (map (less_quotient l.m (nat_abs l.p)) (take l.term-index l.unit.terms));
  narrow : IsNarrow l.by;
}

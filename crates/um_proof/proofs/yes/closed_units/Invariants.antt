use Rattle.std.proofs.Common.{◌≡◌, map, take}
use Rattle.um_units.specs.PowerMap.{one, replace}
use Rattle.um_proof.proofs.yes.closed_units.Given as goal

abbrev pub invariant-loop-unit : goal.invariant-loop-unit
invariant-loop-unit l = l.out.items ≡ map (replace (λ _. one)) (take l.unit-index l.units)

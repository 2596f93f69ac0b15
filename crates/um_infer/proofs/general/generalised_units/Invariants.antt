use Rattle.std.proofs.Common.{◌≡◌, take, map}
use Rattle.um_rows.specs.Generalised.{generalised_unit}
use Rattle.um_infer.proofs.general.generalised_units.Given as goal

abbrev pub invariant-loop-unit : goal.invariant-loop-unit
invariant-loop-unit l = l.items.items ≡ map (generalised_unit l.bases l.parameters l.slots) (take l.unit-index l.unit-items)

use Rattle.std.proofs.Common.{◌≡◌, take, map}
use Rattle.um_rows.specs.Generalised.{generalised_unit}
use Rattle.um_proof.proofs.renaming.general_solution.Given as goal

abbrev pub invariant-loop-unit : goal.invariant-loop-unit
invariant-loop-unit l = l.out.items ≡ map (generalised_unit l.head.bases l.head.parameters l.head.slots) (take l.unit-index l.solution)

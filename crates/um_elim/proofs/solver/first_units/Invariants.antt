use Rattle.std.proofs.Common.{◌≡◌}
use Rattle.um_elim.specs.Solution.{rigid_units}
use Rattle.um_elim.proofs.solver.first_units.Given as goal

abbrev pub invariant-loop-slot : goal.invariant-loop-slot
invariant-loop-slot l = l.units.items ≡ rigid_units l.bases l.parameters l.slot

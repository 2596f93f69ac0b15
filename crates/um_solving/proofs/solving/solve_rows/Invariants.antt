use Rattle.um_elim.specs.Solution.{rigid_units}
use Rattle.um_solving.proofs.SolvingSteps.{IsSolvedUpTo}
use Rattle.um_solving.proofs.solving.solve_rows.Given as goal

abbrev pub invariant-loop-i : goal.invariant-loop-i
invariant-loop-i l = IsSolvedUpTo l.slots (rigid_units l.bases l.parameters l.slots) l.rows l.i l.solver

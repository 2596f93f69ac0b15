use Rattle.um_unit_reasons.proofs.RowSteps.{IsLeft}
use Rattle.um_unit_reasons.proofs.rows.first_unsolvable.Given as goal

abbrev pub invariant-loop-k : goal.invariant-loop-k
invariant-loop-k l = IsLeft l.bases l.parameters l.slots l.rows l.k l.solver

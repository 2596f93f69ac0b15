use Rattle.um_reasons.proofs.OthersLeft.{IsLeft}
use Rattle.um_reasons.proofs.question.others_solved.Given as goal

abbrev pub invariant-loop-k : goal.invariant-loop-k
invariant-loop-k l = IsLeft l.question.bases l.question.parameters l.question.slots l.question.rows.now l.question.core.now l.k-counter l.solver

use Rattle.um_run.proofs.HeadNames.{AreOthers}
use Rattle.um_run.proofs.head.head_named.Given as goal

abbrev pub invariant-loop-k : goal.invariant-loop-k
invariant-loop-k l = AreOthers l.heads l.name l.k

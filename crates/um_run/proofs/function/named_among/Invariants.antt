use Rattle.um_run.proofs.FunctionNames.{AreOthers}
use Rattle.um_run.proofs.function.named_among.Given as goal

abbrev pub invariant-loop-k : goal.invariant-loop-k
invariant-loop-k l = AreOthers l.functions l.name l.k

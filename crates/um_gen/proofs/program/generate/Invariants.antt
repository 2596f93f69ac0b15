use Rattle.um_gen.proofs.EachFunction.{AreWritten}
use Rattle.um_gen.proofs.program.generate.Given as goal

abbrev pub invariant-loop-i : goal.invariant-loop-i
invariant-loop-i l = AreWritten l.functions l.i l.out.ops.items l.entries.items

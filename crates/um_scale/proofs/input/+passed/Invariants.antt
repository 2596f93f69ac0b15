use Rattle.um_scale.proofs.PassedNumbers.{Passes}
use Rattle.um_scale.proofs.input.+passed.Given as goal

abbrev pub invariant-all_passed-loop-i : goal.invariant-all_passed-loop-i
invariant-all_passed-loop-i l = Passes l.scales l.inputs l.from l.i l.next

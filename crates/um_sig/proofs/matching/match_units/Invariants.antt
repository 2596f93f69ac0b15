use Rattle.um_sig.proofs.MatchingSteps.{AreMatchedUpTo}
use Rattle.um_sig.proofs.matching.match_units.Given as goal

abbrev pub invariant-loop-i : goal.invariant-loop-i
invariant-loop-i l = AreMatchedUpTo l.bases l.own l.other l.fn.solver l.i l.solver

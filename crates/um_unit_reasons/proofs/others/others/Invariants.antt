use Rattle.std.proofs.Common.{List}
use Rattle.um_agree.specs.Agreements.{Agreement}
use Rattle.um_agree.specs.Answers.{AreKept}
use Rattle.um_unit_reasons.specs.UnitReasons.{others_before}
use Rattle.um_unit_reasons.specs.Answers.{AreFound}
use Rattle.um_unit_reasons.proofs.others.others.Given as goal

abbrev pub invariant-loop-j : goal.invariant-loop-j
invariant-loop-j l = (agreed : List Agreement) → AreKept agreed l.found → AreFound agreed (others_before agreed l.core l.last l.j) l.told.items

use Rattle.std.proofs.Common.{◌≡◌}
use Rattle.um_tree.specs.RawTree.{unit_syntax}
use Rattle.um_measures.specs.Known.{short_unit}
use Rattle.um_measures.specs.UnitNames.{unknown_among}
use Rattle.um_measures.proofs.UnitLoops.{units_from}
use Rattle.um_measures.proofs.unit.+unknown.Given as goal

abbrev pub invariant-unknown_among-loop-i : goal.invariant-unknown_among-loop-i
invariant-unknown_among-loop-i l = unknown_among (short_unit l.measures) l.variables (units_from unit_syntax l.units 0) ≡ unknown_among (short_unit l.measures) l.variables (units_from unit_syntax l.units l.i)

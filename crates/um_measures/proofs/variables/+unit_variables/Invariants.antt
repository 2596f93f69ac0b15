use Rattle.std.proofs.Common.{◌≡◌}
use Rattle.um_tree.specs.RawTree.{unit_syntax}
use Rattle.um_measures.specs.Variables.{first_occurrences, all_unit_variables}
use Rattle.um_measures.proofs.UnitLoops.{units_from}
use Rattle.um_measures.proofs.variables.+unit_variables.Given as goal

abbrev pub invariant-in_units-loop-i : goal.invariant-in_units-loop-i
invariant-in_units-loop-i l = first_occurrences l.fn.names (all_unit_variables (units_from unit_syntax l.units 0)) ≡ first_occurrences l.names (all_unit_variables (units_from unit_syntax l.units l.i))

use Rattle.std.proofs.Common.{◌++◌, take}
use Rattle.um_elim.specs.Solution.{parameter_rows}
use Rattle.um_equal_types.specs.Steps.{units_of}
use Rattle.um_reasons.specs.Core.{picked}
use Rattle.um_reasons.specs.Search.{AreSolved}
use Rattle.um_reasons.proofs.search.next_in_range.Given as goal

abbrev pub invariant-loop-i : goal.invariant-loop-i
invariant-loop-i l =
    AreSolved l.slots l.bases l.parameters (picked l.slots (parameter_rows l.bases l.parameters) (units_of l.rows) (take l.i l.list)) l.solver.units

abbrev pub invariant-loop-j : goal.invariant-loop-j
invariant-loop-j l =
    AreSolved l.slots l.bases l.parameters (picked l.slots (parameter_rows l.bases l.parameters) (units_of l.rows) l.list ++ take l.j (units_of l.rows)) l.solver.units

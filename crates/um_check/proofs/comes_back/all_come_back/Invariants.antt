use Rattle.std.proofs.Common.{ℕ, ◌<◌, get_or, length, []}
use Rattle.um_units.specs.PowerMap.{nth}
use Rattle.um_equal_types.specs.Steps.{units_of}
use Rattle.um_check.specs.Combination.{NamesRowsBelow}
use Rattle.um_check.specs.Tests.{SlotComesBack}
use Rattle.um_check.proofs.comes_back.all_come_back.Given as goal

abbrev pub invariant-loop-i : goal.invariant-loop-i
invariant-loop-i l =
    (j : ℕ) → j < l.i → NamesRowsBelow (length (units_of l.rows)) (get_or l.parts j []) × SlotComesBack (units_of l.rows) l.back (nth l.solution j) j l.divisor (get_or l.parts j [])

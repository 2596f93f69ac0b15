use Rattle.std.proofs.Common.{◌≡◌, suc, length}
use Rattle.um_units.specs.Variables.{VariablesBelow}
use Rattle.um_elim.specs.Index.{IsIndex}
use Rattle.um_pivots.specs.Pivot.{least_power}
use Rattle.um_elim.specs.Elimination.{steps, eliminate}
use Rattle.um_elim.proofs.solver.eliminate_row.Given as goal

abbrev pub invariant-loop-r : goal.invariant-loop-r
invariant-loop-r l = record {
  same : steps (suc (least_power l.r)) l.units.items l.r ≡ eliminate l.initial.units.items l.row;
  slots : length l.units.items ≡ length l.initial.units.items;
  indexed : IsIndex l.units.items l.index.items;
  variables : VariablesBelow (length l.units.items) l.r;
}

abbrev pub decreases-loop-r : goal.decreases-loop-r
decreases-loop-r l = least_power l.r

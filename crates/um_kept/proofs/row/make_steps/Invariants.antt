use Rattle.std.proofs.Common.{◌≡◌, List}
use Rattle.um_units.specs.PowerMap.{PowerMap, nth}
use Rattle.um_units.specs.Variables.{VariablesBelow}
use Rattle.um_pivots.specs.Pivot.{least_power}
use Rattle.um_kept.specs.Kept.{Kept}
use Rattle.um_kept.specs.Answers.{Agrees}
use Rattle.um_kept.specs.Steps.{IsRowUnderWay}
use Rattle.um_kept.proofs.row.make_steps.Given as goal

abbrev pub invariant-loop-r : goal.invariant-loop-r
invariant-loop-r l = record {
  agrees : (kept : Kept) × Agrees l.head l.partial kept;
  below : VariablesBelow l.head.slots l.r;
  row_under_way : (rows : List PowerMap) (kept : Kept) → l.row ≡ nth rows l.k → Agrees l.head l.fn.partial kept → IsRowUnderWay rows kept l.k l.head l.partial l.r l.inverted;
}

abbrev pub decreases-loop-r : goal.decreases-loop-r
decreases-loop-r l = least_power l.r

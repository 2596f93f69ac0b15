use Rattle.std.specs.Prelude.{All}
use Rattle.um_elim.specs.Elimination.{Elimination}
use Rattle.um_pivots.specs.Pivot.{least_power}
use Rattle.um_elim.proofs.MostGeneral.{IsSound}
use Rattle.um_wide.specs.Room.{IsNarrow}
use Rattle.um_reasons.proofs.wide_rows.eliminate.Given as goal

abbrev pub invariant-loop-at : goal.invariant-loop-at
invariant-loop-at l = record {
  sound : (o : Elimination) → IsSound l.units.items l.r o → IsSound l.initial.units.items l.initial.r o;
  narrow : All IsNarrow l.units.items;
  r_narrow : IsNarrow l.r;
}

abbrev pub decreases-loop-at : goal.decreases-loop-at
decreases-loop-at l = least_power l.r

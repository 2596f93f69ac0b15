use Rattle.std.proofs.Common.{◌≡◌}
use Rattle.std.specs.Prelude.{All}
use Rattle.um_elim.specs.Solution.{rigid_units}
use Rattle.um_wide.specs.Room.{IsNarrow}
use Rattle.um_reasons.proofs.wide_rows.first_units.Given as goal

abbrev pub invariant-loop-slot : goal.invariant-loop-slot
invariant-loop-slot l = record {
  exact : l.units.items ≡ rigid_units l.bases l.parameters l.slot;
  narrow : All IsNarrow l.units.items;
}

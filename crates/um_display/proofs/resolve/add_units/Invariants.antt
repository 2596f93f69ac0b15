use Rattle.um_measures.specs.Known.{short_unit}
use Rattle.um_display.proofs.AddedUnits.{Added}
use Rattle.um_display.proofs.resolve.add_units.Given as goal

abbrev pub invariant-loop-i : goal.invariant-loop-i
invariant-loop-i l = Added (short_unit l.measures) l.parts l.fn.units.items l.units.items l.i

-- The code's: the refusal that a refusal of a unit becomes.
-- Source: this project's own; no public clause rests on it.
use Rattle.um_units.specs.declared.UnitStop.{UnitStop}
use Rattle.um_units.specs.declared.UnitStop.TheVariants as unit
use Rattle.um_elim.specs.declared.stop.ElimStop.{ElimStop}
use Rattle.um_elim.specs.declared.stop.ElimStop.TheVariants as elimination

abbrev pub stop_of : UnitStop → ElimStop
stop_of unit.Range = elimination.Range
stop_of unit.NoMemory = elimination.NoMemory

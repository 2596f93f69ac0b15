-- Why a function has no rows, if it has no slots.
-- Source: this project's own.
use Rattle.um_slots.specs.declared.stop.SlotStop.{SlotStop}
use Rattle.um_slots.specs.declared.stop.SlotStop.TheVariants as slot_stop
use Rattle.um_equal_types.specs.declared.row.RowStop.{RowStop}
use Rattle.um_equal_types.specs.declared.row.RowStop.TheVariants as stop

abbrev pub row_stop : SlotStop → RowStop
row_stop slot_stop.TooMany = stop.Slots
row_stop slot_stop.NoMemory = stop.NoMemory

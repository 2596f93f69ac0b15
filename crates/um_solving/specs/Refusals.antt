-- What a refusal becomes: that of the equations one of their function.
-- Source: this project's own.
use Rattle.um_equal_types.specs.declared.row.RowStop.{RowStop}
use Rattle.um_equal_types.specs.declared.row.RowStop.TheVariants as rows
use Rattle.um_solving.specs.declared.refusal.Refusal.{Refusal}
use Rattle.um_solving.specs.declared.refusal.Refusal.TheVariants as refusal

abbrev pub refusal_of : RowStop → Refusal
refusal_of rows.Slots = refusal.Slots
refusal_of (rows.Range at) = refusal.PowerRange at
refusal_of rows.NoMemory = refusal.NoMemory

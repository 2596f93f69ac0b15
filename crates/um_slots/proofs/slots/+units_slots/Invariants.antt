use Rattle.std.proofs.Common.{length}
use Rattle.um_slots.proofs.slots.+units_slots.Given as goal

abbrev pub decreases-units_slots : goal.decreases-units_slots
decreases-units_slots l = length l.notes.now

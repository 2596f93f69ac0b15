use Rattle.std.proofs.Common.{length}
use Rattle.um_slots.proofs.slots.+notes_slots.Given as goal

abbrev pub decreases-notes_slots : goal.decreases-notes_slots
decreases-notes_slots l = length l.notes.now

use Rattle.std.proofs.Common.{length}
use Rattle.um_slots.proofs.noted.+units_holes.Given as goal

abbrev pub decreases-units_holes : goal.decreases-units_holes
decreases-units_holes l = length l.notes.now

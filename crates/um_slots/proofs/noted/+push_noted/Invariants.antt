use Rattle.std.proofs.Common.{length}
use Rattle.um_slots.proofs.noted.+push_noted.Given as goal

abbrev pub decreases-push_noted : goal.decreases-push_noted
decreases-push_noted l = length l.notes.now

use Rattle.std.proofs.Common.{length}
use Rattle.um_slots.proofs.context.+push_types.Given as goal

abbrev pub decreases-push_types : goal.decreases-push_types
decreases-push_types l = length l.notes.now

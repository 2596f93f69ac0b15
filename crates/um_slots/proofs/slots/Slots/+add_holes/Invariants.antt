use Rattle.um_slots.proofs.slots.Slots.+add_holes.Given as goal

abbrev pub decreases-add_holes : goal.decreases-add_holes
decreases-add_holes l = l.many

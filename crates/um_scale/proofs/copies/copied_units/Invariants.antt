use Rattle.std.proofs.Common.{◌≡◌, take}
use Rattle.um_scale.proofs.copies.copied_units.Given as goal

abbrev pub invariant-loop-note : goal.invariant-loop-note
invariant-loop-note l = l.items.items ≡ take l.note-index l.notes

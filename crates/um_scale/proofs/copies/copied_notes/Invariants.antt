use Rattle.std.proofs.Common.{◌≡◌, map, take}
use Rattle.um_tree.specs.TypeTree.{note_tree}
use Rattle.um_scale.proofs.copies.copied_notes.Given as goal

abbrev pub invariant-loop-note : goal.invariant-loop-note
invariant-loop-note l = map note_tree l.items.items ≡ map note_tree (take l.note-index l.notes)

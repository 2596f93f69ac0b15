use Rattle.std.proofs.Common.{◌≡◌, take, map}
use Rattle.um_tree.specs.TypeTree.{note_tree, shape_tree}
use Rattle.um_tree.specs.Shapes.{note_shape}
use Rattle.um_slots.proofs.inputs.param_shapes.Given as goal

abbrev pub invariant-loop-note : goal.invariant-loop-note
invariant-loop-note l = map shape_tree l.shapes.items ≡ map note_shape (map note_tree (take l.note-index l.params))

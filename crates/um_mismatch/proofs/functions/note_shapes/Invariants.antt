use Rattle.std.proofs.Common.{◌≡◌, map, take}
use Rattle.um_tree.specs.TypeTree.{note_tree}
use Rattle.um_tree.specs.Shapes.{note_shape}
use Rattle.um_mismatch.specs.FlatShapes.{flat_shapes}
use Rattle.um_mismatch.proofs.functions.note_shapes.Given as goal

abbrev pub invariant-loop-i : goal.invariant-loop-i
invariant-loop-i l = flat_shapes l.shapes.items ≡ map note_shape (map note_tree (take l.i l.notes))

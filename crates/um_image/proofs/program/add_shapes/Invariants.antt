use Rattle.std.proofs.Common.{map}
use Rattle.um_tree.specs.TypeTree.{shape_tree, note_tree}
use Rattle.um_tree.specs.Shapes.{note_shape}
use Rattle.um_image.proofs.Mapped.{MadeLeft}
use Rattle.um_image.proofs.program.add_shapes.Given as goal

abbrev pub invariant-loop-i : goal.invariant-loop-i
invariant-loop-i l = MadeLeft note_shape note_tree l.notes l.i (map shape_tree l.initial.shapes.items) (map shape_tree l.shapes.items)

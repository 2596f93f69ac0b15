use Rattle.std.proofs.Common.{◌≡◌, map, take}
use Rattle.um_tree.specs.TypeTree.{shape_tree}
use Rattle.um_shape.specs.FlatShapes.{flat_shapes}
use Rattle.um_shape.proofs.signature.trees.Given as goal

abbrev pub invariant-loop-i : goal.invariant-loop-i
invariant-loop-i l = map shape_tree l.all.items ≡ flat_shapes (take l.i l.shapes)

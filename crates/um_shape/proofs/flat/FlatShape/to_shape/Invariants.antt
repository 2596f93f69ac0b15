use Rattle.std.proofs.Common.{◌≡◌}
use Rattle.um_tree.specs.TypeTree.{shape_tree}
use Rattle.um_shape.specs.FlatShapes.{in_lists, item_shape}
use Rattle.um_shape.proofs.flat.FlatShape.to_shape.Given as goal

abbrev pub invariant-loop : goal.invariant-loop
invariant-loop l = shape_tree l.shape ≡ in_lists l.counter (item_shape l.fn.self.item)

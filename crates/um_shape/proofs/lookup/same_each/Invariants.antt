use Rattle.std.proofs.Common.{◌≡◌, drop}
use Rattle.um_shape.specs.FirstFault.{same_shapes}
use Rattle.um_shape.specs.FlatShapes.{flat_shapes}
use Rattle.um_shape.proofs.lookup.same_each.Given as goal

abbrev pub invariant-loop-i : goal.invariant-loop-i
invariant-loop-i l = same_shapes (flat_shapes l.shapes) (flat_shapes l.others) ≡ same_shapes (flat_shapes (drop l.i l.shapes)) (flat_shapes (drop l.i l.others))

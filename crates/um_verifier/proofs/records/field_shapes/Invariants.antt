use Rattle.std.proofs.Common.{◌≡◌, map, take}
use Rattle.um_tree.specs.TypeTree.{type_tree}
use Rattle.um_tree.specs.Shapes.{type_shape}
use Rattle.um_verify.specs.StackShape.{on_stack}
use Rattle.um_stacks.specs.FlatShapes.{flat_shapes}
use Rattle.um_verifier.proofs.records.field_shapes.Given as goal

abbrev pub invariant-loop-i : goal.invariant-loop-i
invariant-loop-i l = flat_shapes l.shapes.items ≡ map (λ f. on_stack (type_shape (type_tree f.ty))) (take l.i l.fields)

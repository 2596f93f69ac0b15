use Rattle.std.proofs.Common.{◌≡◌, map, take}
use Rattle.um_tree.specs.TypeTree.{shape_tree}
use Rattle.um_verify.specs.StackShape.{on_stack}
use Rattle.um_stacks.specs.FlatShapes.{flat_shapes}
use Rattle.um_verifier.proofs.heads.param_shapes.Given as goal

abbrev pub invariant-loop-i : goal.invariant-loop-i
invariant-loop-i l = flat_shapes l.flat.items ≡ map (λ s. on_stack (shape_tree s)) (take l.i l.shapes)

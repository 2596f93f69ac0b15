use Rattle.std.proofs.Common.{◌≡◌, ◌+◌, drop}
use Rattle.um_mismatch.specs.NodeRules.{of_parts}
use Rattle.um_mismatch.specs.FlatShapes.{flat_shape, flat_shapes, each_rule, each_first}
use Rattle.um_mismatch.proofs.rules.of_parts.Given as goal

abbrev pub invariant-loop-k : goal.invariant-loop-k
invariant-loop-k l =
    of_parts (each_rule l.each) (each_first l.each) (flat_shape l.whole) (flat_shapes l.asked) (flat_shapes l.parts)
    ≡ of_parts (each_rule l.each) (each_first l.each + l.k) (flat_shape l.whole) (flat_shapes (drop l.k l.asked)) (flat_shapes (drop l.k l.parts))

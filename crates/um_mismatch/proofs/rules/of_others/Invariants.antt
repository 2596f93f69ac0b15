use Rattle.std.proofs.Common.{◌≡◌, ◌+◌, drop}
use Rattle.um_mismatch.specs.NodeRules.{of_others}
use Rattle.um_mismatch.specs.FlatShapes.{flat_shape, flat_shapes}
use Rattle.um_mismatch.proofs.rules.of_others.Given as goal

abbrev pub invariant-loop-k : goal.invariant-loop-k
invariant-loop-k l =
    of_others 2 (flat_shape l.first) (flat_shapes l.rest)
    ≡ of_others (2 + l.k) (flat_shape l.first) (flat_shapes (drop l.k l.rest))

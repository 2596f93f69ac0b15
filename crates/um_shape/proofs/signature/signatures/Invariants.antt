use Rattle.std.proofs.Common.{◌≡◌, take}
use Rattle.um_shape.specs.FlatShapes.{heads_shapes}
use Rattle.um_shape.specs.Signatures.{signatures_shapes}
use Rattle.um_shape.proofs.signature.signatures.Given as goal

abbrev pub invariant-loop-i : goal.invariant-loop-i
invariant-loop-i l = signatures_shapes l.all.items ≡ heads_shapes (take l.i l.heads)

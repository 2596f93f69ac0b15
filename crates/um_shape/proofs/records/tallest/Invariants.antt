use Rattle.std.proofs.Common.{◌≡◌, drop}
use Rattle.um_shape.specs.RecordShapes.{tallest}
use Rattle.um_shape.specs.FlatShapes.{known_records, flat_shapes}
use Rattle.um_shape.proofs.records.tallest.Given as goal

abbrev pub invariant-loop-i : goal.invariant-loop-i
invariant-loop-i l = l.top ≡ tallest (known_records l.records) (flat_shapes (drop l.i l.shapes))

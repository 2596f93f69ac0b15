use Rattle.std.proofs.Common.{◌≡◌, map, take}
use Rattle.um_tree.specs.ProgramTree.{record_tree}
use Rattle.um_mismatch.specs.ShapeDetails.{field_shapes}
use Rattle.um_mismatch.specs.FlatShapes.{known_records}
use Rattle.um_mismatch.proofs.functions.known_records.Given as goal

abbrev pub invariant-loop-i : goal.invariant-loop-i
invariant-loop-i l = known_records l.known.items ≡ map field_shapes (map record_tree (take l.i l.records))

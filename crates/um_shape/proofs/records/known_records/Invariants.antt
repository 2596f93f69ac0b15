use Rattle.std.proofs.Common.{◌≡◌, [], map, drop}
use Rattle.um_tree.specs.ProgramTree.{record_tree}
use Rattle.um_shape.specs.FirstFault.{records_found}
use Rattle.um_shape.specs.FlatShapes.{known_records}
use Rattle.um_shape.proofs.records.known_records.Given as goal

abbrev pub invariant-loop-i : goal.invariant-loop-i
invariant-loop-i l = records_found [] (map record_tree l.records) ≡ records_found (known_records l.known.items) (map record_tree (drop l.i l.records))

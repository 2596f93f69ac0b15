use Rattle.std.proofs.Common.{◌≡◌, map, drop}
use Rattle.um_tree.specs.ProgramTree.{function_tree}
use Rattle.um_mismatch.specs.ShapeDetails.{functions_told}
use Rattle.um_mismatch.specs.FlatShapes.{known_records, heads_shapes}
use Rattle.um_mismatch.proofs.functions.add_heads.Given as goal

abbrev pub invariant-loop-i : goal.invariant-loop-i
invariant-loop-i l =
    functions_told (known_records l.fn.known.records.items) (heads_shapes l.fn.known.heads.items) (map function_tree l.functions)
    ≡ functions_told (known_records l.known.records.items) (heads_shapes l.known.heads.items) (map function_tree (drop l.i l.functions))

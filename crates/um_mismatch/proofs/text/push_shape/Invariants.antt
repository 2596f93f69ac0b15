use Rattle.std.proofs.Common.{◌≡◌, ◌++◌}
use Rattle.um_tree.specs.ProgramTree.{program_tree}
use Rattle.um_shape.specs.FlatShapes.{in_lists}
use Rattle.um_mismatch.specs.Mismatch.{shape_text}
use Rattle.um_mismatch.specs.FlatShapes.{item_shape}
use Rattle.um_mismatch.proofs.text.push_shape.Given as goal

abbrev pub invariant-loop : goal.invariant-loop
invariant-loop l =
    l.text.items ≡ l.fn.text.items ++ shape_text (program_tree l.program) (in_lists l.counter (item_shape l.fn.shape.item))

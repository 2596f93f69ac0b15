use Rattle.std.proofs.Common.{map}
use Rattle.um_tree.specs.TypeTree.{shape_tree}
use Rattle.um_tree.specs.ProgramTree.{record_tree}
use Rattle.um_slots.proofs.InputLoops.{ItemsLeft, TextsLeft}
use Rattle.um_slots.proofs.inputs.+inputs.Given as goal

abbrev pub invariant-item_exprs-loop-i : goal.invariant-item_exprs-loop-i
invariant-item_exprs-loop-i l = ItemsLeft (map record_tree l.records) (shape_tree l.shape) l.inputs l.i l.items.items

abbrev pub invariant-input_exprs-loop-i : goal.invariant-input_exprs-loop-i
invariant-input_exprs-loop-i l = TextsLeft (map record_tree l.records) l.shapes l.inputs l.i l.items.items

use Rattle.std.proofs.Common.{length, map}
use Rattle.um_tree.specs.TypeTree.{shape_tree}
use Rattle.um_tree.specs.ProgramTree.{record_tree}
use Rattle.um_reader.proofs.Loop.{Stands}
use Rattle.um_unit_texts.specs.UnitStops.{greatest_height}
use Rattle.um_value.specs.ValueMachine.{machine_of_values}
use Rattle.um_value.specs.ValueView.{value_state}
use Rattle.um_value.proofs.reading.run.Given as goal

abbrev pub invariant-loop-token : goal.invariant-loop-token
invariant-loop-token l = Stands (machine_of_values (map record_tree l.records) (shape_tree l.shape)) greatest_height l.fn.tokens (length l.yielded) (value_state l.reader)

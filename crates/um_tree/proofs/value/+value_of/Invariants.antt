use Rattle.std.proofs.Common.{◌≡◌, map, take}
use Rattle.um_tree.specs.ValueTree.{value_tree, input_tree, without_units}
use Rattle.um_tree.proofs.value.+value_of.Given as goal

abbrev pub invariant-each_value_of-loop-i : goal.invariant-each_value_of-loop-i
invariant-each_value_of-loop-i l = map value_tree l.values.items ≡ map (λ i. without_units (input_tree i)) (take l.i l.inputs)

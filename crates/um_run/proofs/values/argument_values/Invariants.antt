use Rattle.std.proofs.Common.{◌≡◌, map, take}
use Rattle.um_tree.specs.ValueTree.{value_tree, input_tree, without_units}
use Rattle.um_run.proofs.values.argument_values.Given as goal

abbrev pub invariant-loop-k : goal.invariant-loop-k
invariant-loop-k l = map value_tree l.items.items ≡ map without_units (map input_tree (take l.k l.inputs))

use Rattle.std.proofs.Common.{◌≡◌, map, take}
use Rattle.um_tree.specs.ValueTree.{value_tree}
use Rattle.um_tree.proofs.value.+copy_value.Given as goal

abbrev pub invariant-copy_each-loop-i : goal.invariant-copy_each-loop-i
invariant-copy_each-loop-i l = map value_tree l.copies.items ≡ map value_tree (take l.i l.values)

use Rattle.std.proofs.Common.{take, map}
use Rattle.um_tree.specs.TypeTree.{type_tree}
use Rattle.um_equal_types.specs.Against.{against_each}
use Rattle.um_equal_types.specs.Pushed.{AreBehind}
use Rattle.um_equal_types.proofs.equality.against_each.Given as goal

abbrev pub invariant-loop-t : goal.invariant-loop-t
invariant-loop-t l = AreBehind (against_each l.at (type_tree l.left) (map type_tree (take l.t-index l.others))) l.fn.rows.items l.rows.items

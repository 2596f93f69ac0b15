use Rattle.std.proofs.Common.{◌≡◌, ◌+◌, ◌-◌, ◌++◌, [], map, drop, length}
use Rattle.um_tree.specs.TypeTree.{type_tree}
use Rattle.um_rows.specs.NodeTypes.{typed_node}
use Rattle.um_annot.specs.Answers.{retyped}
use Rattle.um_annot.specs.Placing.{placed_nodes}
use Rattle.um_annot.proofs.annotation.put_types.Given as goal

abbrev pub invariant-loop-i : goal.invariant-loop-i
invariant-loop-i l =
    let ts = l.fn.types.items.items in
    let heads = length ts - length l.order in
    record {
      done : map typed_node (drop l.i l.nodes.items) ≡ retyped (placed_nodes [] (drop l.i l.order)) (map type_tree (drop (heads + l.i) ts));
      left : l.types.items.items ++ drop (heads + l.i) ts ≡ ts;
      count : length l.types.items.items ≡ heads + l.i;
      nodes : length l.order ≡ length l.nodes.items;
    }

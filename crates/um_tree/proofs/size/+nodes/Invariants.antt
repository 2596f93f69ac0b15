use Rattle.std.proofs.Common.{◌≡◌, map, drop}
use Rattle.um_tree.specs.RawTree.{expr_syntax, exprs_in_order, field_part, fields_in_order}
use Rattle.um_tree.specs.Heights.{all_expr_nodes, all_field_nodes}
use Rattle.um_tree.proofs.size.+nodes.Given as goal

abbrev pub invariant-all_nodes-loop-i : goal.invariant-all_nodes-loop-i
invariant-all_nodes-loop-i l = l.total ≡ all_expr_nodes (exprs_in_order (map expr_syntax (drop l.i l.items)))

abbrev pub invariant-all_part_nodes-loop-i : goal.invariant-all_part_nodes-loop-i
invariant-all_part_nodes-loop-i l = l.total ≡ all_field_nodes (fields_in_order (map field_part (drop l.i l.fields)))

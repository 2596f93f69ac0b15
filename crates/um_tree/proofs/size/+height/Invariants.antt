use Rattle.std.proofs.Common.{◌≡◌, map, drop}
use Rattle.um_tree.specs.RawTree.{expr_syntax, exprs_in_order, field_part, fields_in_order}
use Rattle.um_tree.specs.Heights.{tallest_expr, tallest_field}
use Rattle.um_tree.proofs.size.+height.Given as goal

abbrev pub invariant-tallest-loop-i : goal.invariant-tallest-loop-i
invariant-tallest-loop-i l = l.top ≡ tallest_expr (exprs_in_order (map expr_syntax (drop l.i l.items)))

abbrev pub invariant-tallest_part-loop-i : goal.invariant-tallest_part-loop-i
invariant-tallest_part-loop-i l = l.top ≡ tallest_field (fields_in_order (map field_part (drop l.i l.fields)))

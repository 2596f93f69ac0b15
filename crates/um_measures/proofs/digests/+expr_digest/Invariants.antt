use Rattle.std.proofs.Common.{◌≡◌, false, map, drop}
use Rattle.um_tree.specs.RawTree.{expr_syntax, exprs_in_order, field_part, fields_in_order}
use Rattle.um_measures.specs.Variables.{exprs_variables, fields_variables}
use Rattle.um_measures.proofs.digests.+expr_digest.Given as goal

abbrev pub invariant-in_exprs-loop-i : goal.invariant-in_exprs-loop-i
invariant-in_exprs-loop-i l = l.any ≡ false → exprs_variables (exprs_in_order (map expr_syntax l.items)) ≡ exprs_variables (exprs_in_order (map expr_syntax (drop l.i l.items)))

abbrev pub invariant-in_fields-loop-i : goal.invariant-in_fields-loop-i
invariant-in_fields-loop-i l = l.any ≡ false → fields_variables (fields_in_order (map field_part l.fields)) ≡ fields_variables (fields_in_order (map field_part (drop l.i l.fields)))

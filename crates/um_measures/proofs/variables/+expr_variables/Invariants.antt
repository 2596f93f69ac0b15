use Rattle.std.proofs.Common.{◌≡◌, map, drop}
use Rattle.um_tree.specs.RawTree.{expr_syntax, exprs_in_order, field_part, fields_in_order}
use Rattle.um_measures.specs.Variables.{first_occurrences, exprs_variables, fields_variables}
use Rattle.um_measures.proofs.variables.+expr_variables.Given as goal

abbrev pub invariant-in_exprs-loop-i : goal.invariant-in_exprs-loop-i
invariant-in_exprs-loop-i l = first_occurrences l.fn.names (exprs_variables (exprs_in_order (map expr_syntax l.items))) ≡ first_occurrences l.names (exprs_variables (exprs_in_order (map expr_syntax (drop l.i l.items))))

abbrev pub invariant-in_fields-loop-i : goal.invariant-in_fields-loop-i
invariant-in_fields-loop-i l = first_occurrences l.fn.names (fields_variables (fields_in_order (map field_part l.fields))) ≡ first_occurrences l.names (fields_variables (fields_in_order (map field_part (drop l.i l.fields))))

use Rattle.std.proofs.Common.{List, ap, map, drop, ◌+◌}
use Rattle.um_tree.specs.RawTree.{ExprSyntax, FieldPart, expr_syntax, exprs_in_order, field_part, fields_in_order}
use Rattle.um_measures.specs.Variables.{expr_variables, exprs_variables, fields_variables}
use Rattle.um_measures.proofs.Stages.{map_from_more}
use Rattle.um_measures.proofs.BodyNotes.{none_next}
use Rattle.um_measures.proofs.digests.+expr_digest.Goals as goal

pub in_exprs-loop-i-preserved : goal.in_exprs-loop-i-preserved
in_exprs-loop-i-preserved t c =
    let es = c.args.items.now in
    let i = c.loop-i.i in
    let x = c.index-items-i.result in
    none_next c.loop-i.any c.in_expr-any.result (exprs_variables (exprs_in_order (map expr_syntax es))) (exprs_variables (exprs_in_order (map expr_syntax (drop i es)))) (expr_variables (expr_syntax x)) (exprs_variables (exprs_in_order (map expr_syntax (drop (i + 1) es))))
    c.loop-i.invariant (ap (λ (ts : List ExprSyntax). exprs_variables (exprs_in_order ts)) (map_from_more expr_syntax es i x c.loop-i-test.true c.index-items-i.is)) c.in_expr-any.ensures

pub in_fields-loop-i-preserved : goal.in_fields-loop-i-preserved
in_fields-loop-i-preserved t c =
    let fs = c.args.fields.now in
    let i = c.loop-i.i in
    let x = c.index-fields-i.result in
    none_next c.loop-i.any c.in_field-any.result (fields_variables (fields_in_order (map field_part fs))) (fields_variables (fields_in_order (map field_part (drop i fs)))) (expr_variables (field_part x).part) (fields_variables (fields_in_order (map field_part (drop (i + 1) fs))))
    c.loop-i.invariant (ap (λ (ts : List FieldPart). fields_variables (fields_in_order ts)) (map_from_more field_part fs i x c.loop-i-test.true c.index-fields-i.is)) c.in_field-any.ensures

use Rattle.std.proofs.Common.{rules, inl, inr, ◌≡◌, ◌++◌, List, ap, map, drop, ◌+◌}
use Rattle.um_tree.specs.declared.raw.RawNode.{the_lemmas}
use Rattle.um_tree.specs.RawTree.{ExprSyntax, FieldPart, expr_syntax, exprs_in_order, field_part, fields_in_order}
use Rattle.um_measures.specs.Variables.{first_occurrences, expr_variables, exprs_variables, fields_variables}
use Rattle.um_measures.proofs.Stages.{map_from_more}
use Rattle.um_measures.proofs.Occurrences.{both_occur, occur_next}
use Rattle.um_measures.proofs.variables.+expr_variables.Goals as goal

pub in_exprs-loop-i-preserved : goal.in_exprs-loop-i-preserved
in_exprs-loop-i-preserved t c =
    let es = c.args.items.now in
    let i = c.loop-i.i in
    let x = c.index-items-i.result in
    occur_next (first_occurrences c.args.names.now (exprs_variables (exprs_in_order (map expr_syntax es)))) c.loop-i.names c.in_expr.new.names (exprs_variables (exprs_in_order (map expr_syntax (drop i es)))) (expr_variables (expr_syntax x)) (exprs_variables (exprs_in_order (map expr_syntax (drop (i + 1) es))))
    c.loop-i.invariant (ap (λ (ts : List ExprSyntax). exprs_variables (exprs_in_order ts)) (map_from_more expr_syntax es i x c.loop-i-test.true c.index-items-i.is)) c.in_ok-in_expr.ensures

pub in_fields-loop-i-preserved : goal.in_fields-loop-i-preserved
in_fields-loop-i-preserved t c =
    let fs = c.args.fields.now in
    let i = c.loop-i.i in
    let x = c.index-fields-i.result in
    occur_next (first_occurrences c.args.names.now (fields_variables (fields_in_order (map field_part fs)))) c.loop-i.names c.in_field.new.names (fields_variables (fields_in_order (map field_part (drop i fs)))) (expr_variables (field_part x).part) (fields_variables (fields_in_order (map field_part (drop (i + 1) fs))))
    c.loop-i.invariant (ap (λ (ts : List FieldPart). fields_variables (fields_in_order ts)) (map_from_more field_part fs i x c.loop-i-test.true c.index-fields-i.is)) c.in_ok-in_field.ensures

pub in_expr-returns-in_ok-in_expr-in-Arith-2 : goal.in_expr-returns-in_ok-in_expr-in-Arith-2
in_expr-returns-in_ok-in_expr-in-Arith-2 t c =
    let g : c.in_expr-in-Arith-2.new.names ≡ first_occurrences c.args.names.now (expr_variables (expr_syntax c.in-Arith.a.value) ++ expr_variables (expr_syntax c.in-Arith.b.value)) =
    both_occur c.args.names.now c.in_expr-in-Arith.new.names c.in_expr-in-Arith-2.new.names (expr_variables (expr_syntax c.in-Arith.a.value)) (expr_variables (expr_syntax c.in-Arith.b.value))
    (rw c.deref-in-Arith.ensures at c.in_ok-in_expr-in-Arith.ensures) (rw c.deref-in-Arith-2.ensures at c.in_ok-in_expr-in-Arith-2.ensures) in
    elim c.in-Arith.is [
      | inl e ↦ let f = e.1 in search (rules, the_lemmas, g, f)
      | inr (inl e) ↦ let f = e.1 in search (rules, the_lemmas, g, f)
      | inr (inr (inl e)) ↦ search (rules, the_lemmas, g, e)
      | inr (inr (inr (inl e))) ↦ search (rules, the_lemmas, g, e)
      | inr (inr (inr (inr (inl e)))) ↦ let f = e.1 in search (rules, the_lemmas, g, f)
      | inr (inr (inr (inr (inr e)))) ↦ search (rules, the_lemmas, g, e)
    ]

pub in_expr-returns-in_ok-in_expr-in-If-3 : goal.in_expr-returns-in_ok-in_expr-in-If-3
in_expr-returns-in_ok-in_expr-in-If-3 t c =
    let f : c.in_expr-in-If.new.names ≡ first_occurrences c.args.names.now (expr_variables (expr_syntax c.in-If.a.value) ++ expr_variables (expr_syntax c.in-If.b.value)) =
    both_occur c.args.names.now c.in_expr.new.names c.in_expr-in-If.new.names (expr_variables (expr_syntax c.in-If.a.value)) (expr_variables (expr_syntax c.in-If.b.value))
    (rw c.deref-in-If.ensures at c.in_ok-in_expr-in-If.ensures) (rw c.deref-in-If-2.ensures at c.in_ok-in_expr-in-If-2.ensures) in
    let g : c.in_expr-in-If-2.new.names ≡ first_occurrences c.args.names.now (expr_variables (expr_syntax c.in-If.a.value) ++ expr_variables (expr_syntax c.in-If.b.value) ++ expr_variables (expr_syntax c.in-If.c.value)) =
    both_occur c.args.names.now c.in_expr-in-If.new.names c.in_expr-in-If-2.new.names (expr_variables (expr_syntax c.in-If.a.value) ++ expr_variables (expr_syntax c.in-If.b.value)) (expr_variables (expr_syntax c.in-If.c.value))
    f (rw c.deref-in-If-3.ensures at c.in_ok-in_expr-in-If-3.ensures) in
    elim c.in-If.is [ inl e ↦ search (rules, the_lemmas, g, e) | inr e ↦ let h = e.2 in search (rules, the_lemmas, g, h) ]

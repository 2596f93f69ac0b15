use Rattle.std.proofs.Common.{◌≡◌, ◌+◌, max, map}
use Rattle.um_tree.proofs.raw.RawExpr.TheLaws.{the_size}
use Rattle.um_tree.specs.ExprTree.{expr_tree}
use Rattle.um_tree.specs.RawTree.{expr_syntax, field_part}
use Rattle.um_names.specs.Bodies.{resolved_in}
use Rattle.um_measures.proofs.Stages.{Stage}
use Rattle.um_names.proofs.expr.+expr.Given as goal

abbrev pub invariant-exprs-loop-i : goal.invariant-exprs-loop-i
invariant-exprs-loop-i l = record {
  done : Stage (resolved_in l.lookup.tables.now l.lookup.body.now l.fn.scope) expr_syntax l.items (map expr_tree l.es.items) l.i;
  scope : l.scope ≡ l.fn.scope;
}

abbrev pub invariant-field_values-loop-i : goal.invariant-field_values-loop-i
invariant-field_values-loop-i l = record {
  done : Stage (λ p. resolved_in l.lookup.tables.now l.lookup.body.now l.fn.scope p.part) field_part l.fields (map expr_tree l.es.items) l.i;
  scope : l.scope ≡ l.fn.scope;
}

-- Twice the size of what is read, and how many calls a function is away from one with a smaller part.

abbrev pub decreases-expr : goal.decreases-expr
decreases-expr l = the_size l.e.now + the_size l.e.now

abbrev pub decreases-boxed : goal.decreases-boxed
decreases-boxed l = the_size l.e.now + the_size l.e.now + 1

abbrev pub decreases-two : goal.decreases-two
decreases-two l = max (the_size l.a.now) (the_size l.b.now) + max (the_size l.a.now) (the_size l.b.now) + 2

abbrev pub decreases-rest_expr : goal.decreases-rest_expr
decreases-rest_expr l = the_size l.b.now + the_size l.b.now + 2

abbrev pub decreases-full_arm : goal.decreases-full_arm
decreases-full_arm l = the_size l.arm.now.part.now + the_size l.arm.now.part.now + 2

abbrev pub decreases-field_expr : goal.decreases-field_expr
decreases-field_expr l = the_size l.a.now + the_size l.a.now + 1

abbrev pub decreases-joined_expr : goal.decreases-joined_expr
decreases-joined_expr l = max (the_size l.a.now) (the_size l.b.now) + max (the_size l.a.now) (the_size l.b.now) + 3

abbrev pub decreases-let_expr : goal.decreases-let_expr
decreases-let_expr l = max (the_size l.a.now) (the_size l.b.now) + max (the_size l.a.now) (the_size l.b.now) + 3

abbrev pub decreases-if_expr : goal.decreases-if_expr
decreases-if_expr l =
    let size = max (the_size l.c.now) (max (the_size l.a.now) (the_size l.b.now)) in
    size + size + 3

abbrev pub decreases-match_expr : goal.decreases-match_expr
decreases-match_expr l =
    let size = max (the_size l.l.now) (max (the_size l.a.now) (the_size l.arm.now.part.now)) in
    size + size + 3

abbrev pub decreases-exprs : goal.decreases-exprs
decreases-exprs l = goal.size-exprs l + goal.size-exprs l + 1

abbrev pub decreases-call_expr : goal.decreases-call_expr
decreases-call_expr l = goal.size-call_expr l + goal.size-call_expr l + 2

abbrev pub decreases-field_values : goal.decreases-field_values
decreases-field_values l = goal.size-field_values l + goal.size-field_values l + 1

abbrev pub decreases-record_expr : goal.decreases-record_expr
decreases-record_expr l = goal.size-record_expr l + goal.size-record_expr l + 2

abbrev pub decreases-field_value : goal.decreases-field_value
decreases-field_value l = goal.size-field_value l + goal.size-field_value l

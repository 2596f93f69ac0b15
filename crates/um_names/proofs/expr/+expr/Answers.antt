use Rattle.std.proofs.Common.{map, ap, ◌∙◌, sym, subst, Ok}
use Rattle.std.proofs.lemmas.Result.{err_from_is_err_and}
use Rattle.um_tree.specs.ExprTree.{expr_tree, in_order}
use Rattle.um_tree.specs.RawTree.{FieldPart, expr_syntax, field_part}
use Rattle.um_measures.specs.Faults.{and_then}
use Rattle.um_measures.specs.Stops.{IsFirst}
use Rattle.um_names.specs.Tables.{known_of}
use Rattle.um_measures.specs.Scopes.{Scope}
use Rattle.um_names.specs.Bodies.{resolved_in, callables_of}
use Rattle.um_measures.proofs.Stages.{stage_stops, stage_ends}
use Rattle.um_names.proofs.BodyLists.{exprs_each, parts_each, exprs_first, parts_first}
use Rattle.um_names.proofs.JointNames.{joint_found, joint_first}
use Rattle.um_names.proofs.expr.+expr.Goals as goal

pub joined_expr-returns-clause-exact : goal.joined_expr-returns-clause-exact
joined_expr-returns-clause-exact t c =
    let a = c.args in
    let first = c.in_ok-first.first.value in
    let second = c.in_ok-first.second.value in
    joint_found a.lookup.now.tables.now a.lookup.now.body.now a.scope.now a.at (expr_syntax a.a.now) (expr_syntax a.b.now) a.joint (expr_tree first) (expr_tree second) c.in_ok-first.ensures.first c.in_ok-first.ensures.second
    ∙ ap Ok (sym c.joined.ensures)

pub joined_expr-returns-in_err-first-clause-faults : goal.joined_expr-returns-in_err-first-clause-faults
joined_expr-returns-in_err-first-clause-faults t c =
    let a = c.args in
    let p = err_from_is_err_and c.from_residual.result c.from_residual.ensures.1 in
    rw (p.1, p.2) (joint_first a.lookup.now.tables.now a.lookup.now.body.now a.scope.now a.at (expr_syntax a.a.now) (expr_syntax a.b.now) a.joint c.in_err-first.field-0.0 c.in_err-first.ensures.faults)

pub exprs-returns-clause-exact : goal.exprs-returns-clause-exact
exprs-returns-clause-exact t c =
    let a = c.args in
    exprs_each (known_of a.lookup.now.tables.now) a.lookup.now.body.now.variables (callables_of a.lookup.now.tables.now a.lookup.now.body.now) a.scope.now (map expr_syntax a.items.now)
    ∙ ap (λ r. and_then r (λ bs. Ok (in_order bs)))
    (stage_ends (resolved_in a.lookup.now.tables.now a.lookup.now.body.now a.scope.now) expr_syntax a.items.now (map expr_tree c.loop-i.es.items) c.loop-i.i c.loop-i.invariant.done c.loop-i-test.false)

pub exprs-returns-in_err-expr-clause-faults : goal.exprs-returns-in_err-expr-clause-faults
exprs-returns-in_err-expr-clause-faults t c =
    let a = c.args in
    let p = err_from_is_err_and c.from_residual-in_err-expr.result c.from_residual-in_err-expr.ensures.1 in
    let stop = c.in_err-expr.field-0.0 in
    let x = c.index-items-i.result in
    let here = subst (λ (s : Scope). IsFirst (resolved_in a.lookup.now.tables.now a.lookup.now.body.now s (expr_syntax x)) stop) c.loop-i.invariant.scope c.in_err-expr.ensures.faults in
    rw (p.1, p.2)
    (exprs_first (known_of a.lookup.now.tables.now) a.lookup.now.body.now.variables (callables_of a.lookup.now.tables.now a.lookup.now.body.now) a.scope.now (map expr_syntax a.items.now) stop
    (stage_stops (resolved_in a.lookup.now.tables.now a.lookup.now.body.now a.scope.now) expr_syntax a.items.now (map expr_tree c.loop-i.es.items) c.loop-i.i x stop c.loop-i.invariant.done c.loop-i-test.true c.index-items-i.is here))

pub field_values-returns-clause-exact : goal.field_values-returns-clause-exact
field_values-returns-clause-exact t c =
    let a = c.args in
    parts_each (known_of a.lookup.now.tables.now) a.lookup.now.body.now.variables (callables_of a.lookup.now.tables.now a.lookup.now.body.now) a.scope.now (map field_part a.fields.now)
    ∙ ap (λ r. and_then r (λ bs. Ok (in_order bs)))
    (stage_ends (λ (p : FieldPart). resolved_in a.lookup.now.tables.now a.lookup.now.body.now a.scope.now p.part) field_part a.fields.now (map expr_tree c.loop-i.es.items) c.loop-i.i c.loop-i.invariant.done c.loop-i-test.false)

pub field_values-returns-in_err-field_value-clause-faults : goal.field_values-returns-in_err-field_value-clause-faults
field_values-returns-in_err-field_value-clause-faults t c =
    let a = c.args in
    let p = err_from_is_err_and c.from_residual-in_err-field_value.result c.from_residual-in_err-field_value.ensures.1 in
    let stop = c.in_err-field_value.field-0.0 in
    let x = c.index-fields-i.result in
    let here = subst (λ (s : Scope). IsFirst (resolved_in a.lookup.now.tables.now a.lookup.now.body.now s (field_part x).part) stop) c.loop-i.invariant.scope c.in_err-field_value.ensures.faults in
    rw (p.1, p.2)
    (parts_first (known_of a.lookup.now.tables.now) a.lookup.now.body.now.variables (callables_of a.lookup.now.tables.now a.lookup.now.body.now) a.scope.now (map field_part a.fields.now) stop
    (stage_stops (λ (p : FieldPart). resolved_in a.lookup.now.tables.now a.lookup.now.body.now a.scope.now p.part) field_part a.fields.now (map expr_tree c.loop-i.es.items) c.loop-i.i x stop c.loop-i.invariant.done c.loop-i-test.true c.index-fields-i.is here))

use Rattle.std.proofs.Common.{rules, arith, ◌≡◌, List, [], ◌∷◌, ◌++◌, length, map, ap, sym, subst, ◌∙◌, Ok}
use Rattle.std.proofs.lemmas.List.{length_push, map-append}
use Rattle.std.proofs.lemmas.Result.{err_from_is_err_and}
use Rattle.std.proofs.lemmas.Iterator.Consumers.{YieldsList-turn, YieldsList-end}
use Rattle.std.proofs.lemmas.Iterator.Adapters.{YieldsList-from_vec}
use Rattle.um_tree.specs.declared.expression.Expr.{Expr}
use Rattle.um_tree.specs.ExprTree.{expr_tree, in_order}
use Rattle.um_tree.specs.RawTree.{expr_syntax}
use Rattle.um_measures.specs.Faults.{and_then}
use Rattle.um_measures.specs.Stops.{IsFirst}
use Rattle.um_measures.specs.Scopes.{Scope}
use Rattle.um_names.specs.Tables.{known_of}
use Rattle.um_names.specs.Bodies.{resolved_in, callables_of}
use Rattle.um_measures.proofs.Stages.{Stage, stage_pushed, stage_stops, stage_ends}
use Rattle.um_names.proofs.BodyLists.{exprs_each, exprs_first}
use Rattle.um_names.proofs.body.parts.Goals as goal

pub loop-item-preserved : goal.loop-item-preserved
loop-item-preserved c =
    let a = c.args in
    let es = a.items.items in
    let seen = c.loop-item.yielded in
    let x = c.in-Some.item in
    let y = c.in_ok-part.field-0 in
    let before = c.loop-item.es.items in
    let turn = YieldsList-turn (YieldsList-from_vec {s = c.into_iter-item-iterator.result} es (search rules) (search rules)) seen c.loop-item.item-iterator c.loop-item.yielded_by c.next.result c.next.new.self x c.in-Some.is c.next.ensures.steps in
    let here = subst (λ (s : Scope). resolved_in a.lookup.now.tables.now a.lookup.now.body.now s (expr_syntax x) ≡ Ok (expr_tree y)) c.loop-item.invariant.scope c.in_ok-part.ensures.exact in
    let pushed : map expr_tree c.push.new.self.items ≡ map expr_tree before ++ expr_tree y ∷ [] = ap (λ (bs : List Expr). map expr_tree bs) c.in_ok-push.ensures.items ∙ map-append expr_tree before (y ∷ []) in
    record {
      done = subst (λ k. Stage (resolved_in a.lookup.now.tables.now a.lookup.now.body.now a.scope.now) expr_syntax es (map expr_tree c.push.new.self.items) k) (sym (length_push seen x))
          (stage_pushed (resolved_in a.lookup.now.tables.now a.lookup.now.body.now a.scope.now) expr_syntax es (map expr_tree before) (map expr_tree c.push.new.self.items) (length seen) x (expr_tree y) c.loop-item.invariant.done turn.0 turn.1 here pushed);
      scope = c.in_ok-part.ensures.scope ∙ c.loop-item.invariant.scope;
    }

pub returns-clause-exact : goal.returns-clause-exact
returns-clause-exact c =
    let a = c.args in
    let es = a.items.items in
    let seen = c.loop-item.yielded in
    let end = YieldsList-end (YieldsList-from_vec {s = c.into_iter-item-iterator.result} es (search rules) (search rules)) seen c.loop-item.item-iterator c.loop-item.yielded_by c.next.result c.next.new.self c.in-None.is c.next.ensures.steps in
    exprs_each (known_of a.lookup.now.tables.now) a.lookup.now.body.now.variables (callables_of a.lookup.now.tables.now a.lookup.now.body.now) a.scope.now (map expr_syntax es)
    ∙ ap (λ r. and_then r (λ bs. Ok (in_order bs)))
    (stage_ends (resolved_in a.lookup.now.tables.now a.lookup.now.body.now a.scope.now) expr_syntax es (map expr_tree c.loop-item.es.items) (length seen) c.loop-item.invariant.done (omega (arith, end.1)))

pub returns-in_err-part-clause-faults : goal.returns-in_err-part-clause-faults
returns-in_err-part-clause-faults c =
    let a = c.args in
    let es = a.items.items in
    let seen = c.loop-item.yielded in
    let x = c.in-Some.item in
    let turn = YieldsList-turn (YieldsList-from_vec {s = c.into_iter-item-iterator.result} es (search rules) (search rules)) seen c.loop-item.item-iterator c.loop-item.yielded_by c.next.result c.next.new.self x c.in-Some.is c.next.ensures.steps in
    let p = err_from_is_err_and c.from_residual-in_err-part.result c.from_residual-in_err-part.ensures.1 in
    let stop = c.in_err-part.field-0.0 in
    let here = subst (λ (s : Scope). IsFirst (resolved_in a.lookup.now.tables.now a.lookup.now.body.now s (expr_syntax x)) stop) c.loop-item.invariant.scope c.in_err-part.ensures.faults in
    rw (p.1, p.2)
    (exprs_first (known_of a.lookup.now.tables.now) a.lookup.now.body.now.variables (callables_of a.lookup.now.tables.now a.lookup.now.body.now) a.scope.now (map expr_syntax es) stop
    (stage_stops (resolved_in a.lookup.now.tables.now a.lookup.now.body.now a.scope.now) expr_syntax es (map expr_tree c.loop-item.es.items) (length seen) x stop c.loop-item.invariant.done turn.0 turn.1 here))

use Rattle.std.proofs.Common.{◌≤◌, Option, IfOk, sym, subst}
use Rattle.std.proofs.lemmas.Result.{IfOk-weaker}
use Rattle.um_tree.specs.declared.raw.RawType.{RawType}
use Rattle.um_tree.specs.RawTree.{written_type}
use Rattle.um_reader.specs.Takes.{Takes}
use Rattle.um_unit_texts.specs.UnitStops.{greatest_height}
use Rattle.um_types.specs.TypeView.{type_state}
use Rattle.um_expr.specs.ExprMachine.{machine_of_expressions}
use Rattle.um_expr.specs.ExprStates.{expr_state}
use Rattle.um_decls.specs.DeclMachine.{InBody}
use Rattle.um_decls.specs.DeclLeast.{decl_least, machine_of_declarations}
use Rattle.um_decls.specs.DeclViews.{start_in, read_params, param_state}
use Rattle.um_decls.specs.declared.function_reader.FunctionExpected.{FunctionExpected}
use Rattle.um_decls.proofs.DeclTokens.{body_takes}
use Rattle.um_decls.proofs.function_reader.FunctionReader.take_body.Goals as goal

pub returns-clause-taken : goal.returns-clause-taken
returns-clause-taken c =
    let f = c.args.self.now in
    let s = start_in f in
    let ps = read_params f in
    let ty = type_state f.ty in
    let old = f.body in
    let new = c.take.new.self in
    let token = c.args.token.now in
    let low = subst (λ (e : FunctionExpected). decl_least (param_state s ps ty old e) ≤ greatest_height) c.requires.body c.requires.low in
    subst (λ (e : FunctionExpected). IfOk c.take.result (λ t. Takes machine_of_declarations greatest_height (param_state s ps ty old e) token t (param_state s ps ty new e))) (sym c.requires.body)
    (
    IfOk-weaker c.take.result (λ t. Takes machine_of_expressions greatest_height (expr_state old.body) token t (expr_state new.body))
    (λ t. Takes machine_of_declarations greatest_height (InBody s ps (written_type old.result) (expr_state old.body)) token t (InBody s ps (written_type new.result) (expr_state new.body)))
    (λ t x.
    subst (λ (r : Option RawType). Takes machine_of_declarations greatest_height (InBody s ps (written_type old.result) (expr_state old.body)) token t (InBody s ps (written_type r) (expr_state new.body))) (sym c.take.ensures.written)
    (body_takes s ps (written_type old.result) (expr_state old.body) (expr_state new.body) token t low x)) c.take.ensures.taken
    )

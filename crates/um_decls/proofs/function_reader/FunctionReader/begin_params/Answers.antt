use Rattle.std.proofs.Common.{[], map, ap, subst, arith}
use Rattle.um_tree.specs.RawTree.{var_syntax}
use Rattle.um_reader.specs.Takes.{Gives}
use Rattle.um_unit_texts.specs.UnitStops.{greatest_height}
use Rattle.um_forms.specs.ExprTokens.{expr_token}
use Rattle.um_decls.specs.DeclMachine.{NoDecl, started, take_params}
use Rattle.um_decls.specs.DeclHeights.{params_height}
use Rattle.um_decls.specs.DeclLeast.{machine_of_declarations}
use Rattle.um_decls.specs.DeclViews.{function_state}
use Rattle.um_decls.proofs.function_reader.FunctionReader.begin_params.Goals as goal

pub invariant_of-self : goal.invariant_of-self
invariant_of-self c = record { low = omega (arith, ap params_height c.clear_params.ensures) }

pub returns : goal.returns
returns c =
    let old = c.args.self.now in
    let h = old.head in
    let w = expr_token c.args.token.now.kind in
    let new = function_state c.take_params.new.self in
    let vs = map var_syntax c.clear_vars.new.vars.items.items in
    subst (λ us. Gives machine_of_declarations greatest_height NoDecl (take_params (started old.recursive h.at h.name us) [] w) c.take_params.result new) c.clear_vars.ensures
    (subst (λ ps. Gives machine_of_declarations greatest_height NoDecl (take_params (started old.recursive h.at h.name vs) ps w) c.take_params.result new) c.clear_params.ensures c.take_params.ensures)

use Rattle.std.proofs.Common.{[], map, sym, ap, ◌∙◌, arith}
use Rattle.um_tree.specs.RawTree.{var_syntax, param_syntax}
use Rattle.um_types.specs.TypeView.{type_state}
use Rattle.um_decls.specs.DeclMachine.{NoDecl, Expects, OfFunction, Params, started}
use Rattle.um_decls.specs.DeclViews.{view_var, param_state}
use Rattle.um_decls.proofs.DeclTaken.{var_low, goes_on}
use Rattle.um_decls.proofs.function_reader.FunctionReader.take_vars.Goals as goal

pub returns-in-Goes-clause-taken : goal.returns-in-Goes-clause-taken
returns-in-Goes-clause-taken c =
    let old = c.args.self.now in
    let o = OfFunction old.recursive old.head.at old.head.name in
    let vs = map var_syntax c.take_var.new.vars.items.items in
    let given = (rw c.in-Goes.is at c.in_ok-next.ensures.taken) o in
    goes_on NoDecl _ (Expects (view_var o vs c.in-Goes.next)) _ c.put.ensures (sym given) (λ e. cc) (var_low o vs c.in-Goes.next)

pub returns-in-Ends-clause-taken : goal.returns-in-Ends-clause-taken
returns-in-Ends-clause-taken c =
    let old = c.args.self.now in
    let h = old.head in
    let o = OfFunction old.recursive h.at h.name in
    let vs = map var_syntax c.take_var.new.vars.items.items in
    let s = started old.recursive h.at h.name vs in
    let ps = map param_syntax c.clear_params.new.params.items.items in
    let given = (rw c.in-Ends.is at c.in_ok-next.ensures.taken) o in
    goes_on NoDecl _ (Expects (Params s [])) _
    (ap (param_state s ps (type_state old.ty) old.body) c.requires.wanted ∙ ap (λ qs. Expects (Params s qs)) c.clear_params.ensures)
    (sym given) (λ e. cc) (omega arith)

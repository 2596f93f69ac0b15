use Rattle.std.proofs.Common.{[], refl, ap, ◌∙◌, arith}
use Rattle.um_tree.specs.RawTree.{written_type}
use Rattle.um_operands.specs.ExprBegun.{Need}
use Rattle.um_expr.specs.ExprStates.{expr_state}
use Rattle.um_decls.specs.DeclMachine.{NoDecl, InBody}
use Rattle.um_decls.specs.DeclViews.{start_in, read_params}
use Rattle.um_decls.proofs.DeclTaken.{goes_on}
use Rattle.um_decls.proofs.function_reader.FunctionReader.begin_body.Goals as goal

pub returns : goal.returns
returns c =
    let old = c.args.self.now in
    let s = start_in old in
    let ps = read_params old in
    let body = c.restart.new.self in
    goes_on NoDecl _ (InBody s ps (written_type c.args.ty) (Need [])) _
    (c.set.ensures ∙ ap (λ r. InBody s ps (written_type r) (expr_state body.body)) c.restart.ensures.written ∙ ap (InBody s ps (written_type c.args.ty)) c.restart.ensures.begun)
    refl (λ e. cc) (omega (arith, old.low, c.requires.low))

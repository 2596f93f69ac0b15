use Rattle.std.proofs.Common.{Some, None, sym, ap, ◌∙◌, arith}
use Rattle.um_forms.specs.ExprTokens.{expr_token}
use Rattle.um_decls.specs.DeclMachine.{DeclBegin, NoDecl, Expects, ParamBinder, ParamColon, take_expected}
use Rattle.um_decls.specs.DeclViews.{start_in, read_params}
use Rattle.um_decls.proofs.DeclTaken.{goes_on}
use Rattle.um_decls.proofs.function_reader.FunctionReader.take_binder.Goals as goal

pub returns-in-Name : goal.returns-in-Name
returns-in-Name c =
    let old = c.args.self.now in
    let s = start_in old in
    let ps = read_params old in
    let at = c.args.token.now.start in
    let letters = c.name_of.ensures ∙ c.take.ensures.letters in
    record {
      taken =
          goes_on NoDecl _ (Expects (ParamColon s ps (record { at = at; name = Some c.in-Name.letters }))) _
          (c.set.ensures ∙ ap (λ x. Expects (ParamColon s ps (record { at = at; name = Some x }))) letters)
          (ap (λ k. take_expected (ParamBinder s ps) (expr_token k) at) c.in-Name.is) (λ e. cc) (omega (arith, old.low));
      kept = sym (ap (λ k. take_expected DeclBegin (expr_token k) at) c.in-Name.is);
    }

pub returns-in-Hole-clause-taken : goal.returns-in-Hole-clause-taken
returns-in-Hole-clause-taken c =
    let old = c.args.self.now in
    let s = start_in old in
    let ps = read_params old in
    let at = c.args.token.now.start in
    goes_on NoDecl _ (Expects (ParamColon s ps (record { at = at; name = None }))) _ c.set-in-Hole.ensures
    (ap (λ k. take_expected (ParamBinder s ps) (expr_token k) at) c.in-Hole.is) (λ e. cc) (omega (arith, old.low))

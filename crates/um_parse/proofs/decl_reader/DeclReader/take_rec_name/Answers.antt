use Rattle.std.proofs.Common.{true, sym, ap, ◌∙◌, arith}
use Rattle.um_forms.specs.ExprTokens.{expr_token}
use Rattle.um_decls.specs.DeclMachine.{DeclBegin, RecName, FunctionVars, NoDecl, Expects, take_expected}
use Rattle.um_decls.proofs.DeclTaken.{goes_on}
use Rattle.um_parse.proofs.decl_reader.DeclReader.take_rec_name.Goals as goal

pub returns-in-Name : goal.returns-in-Name
returns-in-Name c =
    let at = c.args.token.now.start in
    let letters = c.name_of-name.ensures ∙ c.take.ensures.letters in
    record {
      taken =
          goes_on NoDecl _ (Expects (FunctionVars true at c.in-Name.letters)) _
          (c.begin_function.ensures ∙ ap (λ x. Expects (FunctionVars true at x)) letters)
          (ap (λ k. take_expected RecName (expr_token k) at) c.in-Name.is) (λ e. cc) (omega arith);
      kept = sym (ap (λ k. take_expected DeclBegin (expr_token k) at) c.in-Name.is);
    }

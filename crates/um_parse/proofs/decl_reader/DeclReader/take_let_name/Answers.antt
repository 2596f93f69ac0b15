use Rattle.std.proofs.Common.{◌≡◌, false, sym, ap, ◌∙◌, arith, rules}
use Rattle.um_syntax.specs.declared.token.Kind.TheVariants as kind
use Rattle.um_vocabulary.specs.declared.vocabulary.Keyword.TheVariants as keyword
use Rattle.um_forms.specs.ExprTokens.{expr_token}
use Rattle.um_decls.specs.DeclMachine.{DeclBegin, LetName, RecName, FunctionVars, NoDecl, Expects, take_expected}
use Rattle.um_parse.specs.ReaderStates.{place_state}
use Rattle.um_decls.proofs.DeclTaken.{goes_on}
use Rattle.um_parse.proofs.decl_reader.DeclReader.take_let_name.Goals as goal

pub returns-in-Name : goal.returns-in-Name
returns-in-Name c =
    let at = c.args.token.now.start in
    let letters = c.name_of-name.ensures ∙ c.take.ensures.letters in
    record {
      taken =
          goes_on NoDecl _ (Expects (FunctionVars false at c.in-Name.letters)) _
          (c.begin_function.ensures ∙ ap (λ x. Expects (FunctionVars false at x)) letters)
          (ap (λ k. take_expected LetName (expr_token k) at) c.in-Name.is) (λ e. cc) (omega arith);
      kept = sym (ap (λ k. take_expected DeclBegin (expr_token k) at) c.in-Name.is);
    }

pub returns-in-Word-Rec-clause-taken : goal.returns-in-Word-Rec-clause-taken
returns-in-Word-Rec-clause-taken c =
    let token = c.args.token.now in
    let word : token.kind ≡ kind.Word keyword.Rec = search rules in
    goes_on NoDecl _ (Expects RecName) _ (ap (λ p. place_state p c.put.new.self.function) c.put.ensures.place)
    (ap (λ k. take_expected LetName (expr_token k) token.start) word) (λ e. cc) (omega arith)

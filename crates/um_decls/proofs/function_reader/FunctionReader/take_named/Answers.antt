use Rattle.std.proofs.Common.{◌≡◌, [], ap, ◌∙◌, arith, rules}
use Rattle.um_syntax.specs.declared.token.Kind.TheVariants as kind
use Rattle.um_vocabulary.specs.declared.vocabulary.Symbol.TheVariants as symbol
use Rattle.um_forms.specs.ExprTokens.{expr_token}
use Rattle.um_decls.specs.DeclMachine.{NoDecl, Expects, OfFunction, VarBegin, FunctionVars, take_expected}
use Rattle.um_decls.proofs.DeclTaken.{goes_on}
use Rattle.um_decls.proofs.function_reader.FunctionReader.take_named.Goals as goal

pub returns-in-Sign-Less : goal.returns-in-Sign-Less
returns-in-Sign-Less c =
    let old = c.args.self.now in
    let h = old.head in
    let o = OfFunction old.recursive h.at h.name in
    let token = c.args.token.now in
    let less : token.kind ≡ kind.Sign symbol.Less = search rules in
    goes_on NoDecl _ (Expects (VarBegin o [])) _
    (c.put.ensures ∙ ap (λ vs. Expects (VarBegin o vs)) c.clear_vars.ensures)
    (ap (λ k. take_expected (FunctionVars old.recursive h.at h.name) (expr_token k) token.start) less) (λ e. cc) (omega arith)

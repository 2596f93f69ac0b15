use Rattle.std.proofs.Common.{◌≡◌, [], ap, ◌∙◌, arith, rules}
use Rattle.um_syntax.specs.declared.token.Kind.TheVariants as kind
use Rattle.um_vocabulary.specs.declared.vocabulary.Symbol.TheVariants as symbol
use Rattle.um_forms.specs.ExprTokens.{expr_token}
use Rattle.um_decls.specs.DeclMachine.{NoDecl, Expects, OfRecord, VarBegin, RecordVars, RecordBrace, take_expected}
use Rattle.um_decls.proofs.DeclTaken.{goes_on}
use Rattle.um_decls.proofs.record_reader.RecordReader.take_named.Goals as goal

pub returns-in-Sign-Less : goal.returns-in-Sign-Less
returns-in-Sign-Less c =
    let h = c.args.self.now.head in
    let token = c.args.token.now in
    let less : token.kind ≡ kind.Sign symbol.Less = search rules in
    goes_on NoDecl _ (Expects (VarBegin (OfRecord h.at h.name) [])) _
    (c.put.ensures ∙ ap (λ vs. Expects (VarBegin (OfRecord h.at h.name) vs)) c.clear_vars.ensures)
    (ap (λ k. take_expected (RecordVars h.at h.name) (expr_token k) token.start) less) (λ e. cc) (omega arith)

pub returns-in-Sign-Equal : goal.returns-in-Sign-Equal
returns-in-Sign-Equal c =
    let h = c.args.self.now.head in
    let token = c.args.token.now in
    let equal : token.kind ≡ kind.Sign symbol.Equal = search rules in
    goes_on NoDecl _ (Expects (RecordBrace h.at h.name [])) _
    (c.put-in-Sign-Equal.ensures ∙ ap (λ vs. Expects (RecordBrace h.at h.name vs)) c.clear_vars.ensures)
    (ap (λ k. take_expected (RecordVars h.at h.name) (expr_token k) token.start) equal) (λ e. cc) (omega arith)

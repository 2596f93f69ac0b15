use Rattle.std.proofs.Common.{◌≡◌, ap, ◌∙◌, arith, rules}
use Rattle.um_syntax.specs.declared.token.Kind.TheVariants as kind
use Rattle.um_vocabulary.specs.declared.vocabulary.Symbol.TheVariants as symbol
use Rattle.um_types.specs.TypeMachine.{NeedType}
use Rattle.um_forms.specs.ExprTokens.{expr_token}
use Rattle.um_decls.specs.DeclMachine.{NoDecl, FieldColon, InField, take_expected}
use Rattle.um_decls.specs.DeclViews.{head_vars, read_fields}
use Rattle.um_decls.proofs.DeclTaken.{goes_on}
use Rattle.um_decls.proofs.record_reader.RecordReader.take_colon.Goals as goal

pub returns-in-Sign-Colon : goal.returns-in-Sign-Colon
returns-in-Sign-Colon c =
    let old = c.args.self.now in
    let h = old.head in
    let fs = read_fields old in
    let token = c.args.token.now in
    let colon : token.kind ≡ kind.Sign symbol.Colon = search rules in
    goes_on NoDecl _ (InField h.at h.name (head_vars h) fs c.args.at c.args.name (NeedType 0)) _
    (c.put.ensures ∙ ap (InField h.at h.name (head_vars h) fs c.args.at c.args.name) c.restart.ensures.start)
    (ap (λ k. take_expected (FieldColon h.at h.name (head_vars h) fs c.args.at c.args.name) (expr_token k) token.start) colon) (λ e. cc) (omega (arith, old.low))

use Rattle.std.proofs.Common.{◌≡◌, Some, [], ◌∷◌, ◌++◌, ap, arith, rules}
use Rattle.um_syntax.specs.declared.token.Kind.TheVariants as kind
use Rattle.um_vocabulary.specs.declared.vocabulary.Symbol.TheVariants as symbol
use Rattle.um_tree.specs.RawTree.{field_decl_syntax}
use Rattle.um_forms.specs.ExprTokens.{expr_token}
use Rattle.um_decls.specs.DeclMachine.{NoDecl, Expects, FieldName, HaveRecord, field_ends}
use Rattle.um_decls.specs.DeclViews.{head_vars, read_fields}
use Rattle.um_decls.proofs.DeclLists.{fields_height_last}
use Rattle.um_decls.proofs.DeclTaken.{goes_on}
use Rattle.um_decls.proofs.record_reader.RecordReader.after_field.Goals as goal

pub returns-in_ok-with_field-in-Sign-Semicolon : goal.returns-in_ok-with_field-in-Sign-Semicolon
returns-in_ok-with_field-in-Sign-Semicolon c =
    let old = c.args.self.now in
    let h = old.head in
    let fs = read_fields old in
    let f = field_decl_syntax c.args.field in
    let last = fields_height_last fs f in
    let semicolon : c.args.token.now.kind ≡ kind.Sign symbol.Semicolon = search rules in
    goes_on NoDecl _ (Expects (FieldName h.at h.name (head_vars h) (fs ++ f ∷ []))) _ c.in_ok-with_field-in-Sign-Semicolon.ensures
    (ap (λ k. field_ends h.at h.name (head_vars h) fs f.at f.name (Some f.type) (expr_token k)) semicolon) (λ e. cc) (omega (arith, old.low, c.requires.low, last))

pub returns-in_ok-with_field-in-Sign-RightBrace : goal.returns-in_ok-with_field-in-Sign-RightBrace
returns-in_ok-with_field-in-Sign-RightBrace c =
    let old = c.args.self.now in
    let h = old.head in
    let fs = read_fields old in
    let f = field_decl_syntax c.args.field in
    let last = fields_height_last fs f in
    let brace : c.args.token.now.kind ≡ kind.Sign symbol.RightBrace = search rules in
    goes_on NoDecl _ (HaveRecord h.at h.name (head_vars h) (fs ++ f ∷ [])) _ c.in_ok-with_field-in-Sign-RightBrace.ensures
    (ap (λ k. field_ends h.at h.name (head_vars h) fs f.at f.name (Some f.type) (expr_token k)) brace) (λ e. cc) (omega (arith, old.low, c.requires.low, last))

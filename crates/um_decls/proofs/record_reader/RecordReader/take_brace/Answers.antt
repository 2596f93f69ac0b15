use Rattle.std.proofs.Common.{◌≡◌, [], map, ap, ◌∙◌, arith, rules}
use Rattle.um_syntax.specs.declared.token.Kind.TheVariants as kind
use Rattle.um_vocabulary.specs.declared.vocabulary.Symbol.TheVariants as symbol
use Rattle.um_tree.specs.RawTree.{field_decl_syntax}
use Rattle.um_types.specs.TypeView.{type_state}
use Rattle.um_forms.specs.ExprTokens.{expr_token}
use Rattle.um_decls.specs.DeclMachine.{NoDecl, Expects, RecordBrace, FieldName, take_expected}
use Rattle.um_decls.specs.DeclViews.{head_vars, field_state}
use Rattle.um_decls.specs.DeclHeights.{fields_height}
use Rattle.um_decls.proofs.DeclTaken.{goes_on}
use Rattle.um_decls.proofs.record_reader.RecordReader.take_brace.Goals as goal

pub invariant_of-self : goal.invariant_of-self
invariant_of-self c = record { low = omega (arith, ap fields_height c.clear_fields.ensures) }

pub returns-in-Sign-LeftBrace : goal.returns-in-Sign-LeftBrace
returns-in-Sign-LeftBrace c =
    let old = c.args.self.now in
    let h = old.head in
    let token = c.args.token.now in
    let fs = map field_decl_syntax c.clear_fields.new.fields.items.items in
    let brace : token.kind ≡ kind.Sign symbol.LeftBrace = search rules in
    goes_on NoDecl _ (Expects (FieldName h.at h.name (head_vars h) [])) _
    (ap (field_state h fs (type_state old.ty)) c.requires.wanted ∙ ap (λ gs. Expects (FieldName h.at h.name (head_vars h) gs)) c.clear_fields.ensures)
    (ap (λ k. take_expected (RecordBrace h.at h.name (head_vars h)) (expr_token k) token.start) brace) (λ e. cc) (omega arith)

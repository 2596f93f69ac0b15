use Rattle.std.proofs.Common.{sym, ap, ◌∙◌, arith}
use Rattle.um_forms.specs.ExprTokens.{expr_token}
use Rattle.um_decls.specs.DeclMachine.{DeclBegin, NoDecl, Expects, FieldName, FieldColon, take_expected}
use Rattle.um_decls.specs.DeclViews.{head_vars, read_fields}
use Rattle.um_decls.proofs.DeclTaken.{goes_on}
use Rattle.um_decls.proofs.record_reader.RecordReader.take_name.Goals as goal

pub returns-in-Name : goal.returns-in-Name
returns-in-Name c =
    let old = c.args.self.now in
    let h = old.head in
    let fs = read_fields old in
    let at = c.args.token.now.start in
    let letters = c.name_of-name.ensures ∙ c.take.ensures.letters in
    record {
      taken =
          goes_on NoDecl _ (Expects (FieldColon h.at h.name (head_vars h) fs at c.in-Name.letters)) _
          (c.put.ensures ∙ ap (λ x. Expects (FieldColon h.at h.name (head_vars h) fs at x)) letters)
          (ap (λ k. take_expected (FieldName h.at h.name (head_vars h) fs) (expr_token k) at) c.in-Name.is) (λ e. cc) (omega (arith, old.low));
      kept = sym (ap (λ k. take_expected DeclBegin (expr_token k) at) c.in-Name.is);
    }

use Rattle.std.proofs.Common.{sym, ap, ◌∙◌, arith}
use Rattle.um_forms.specs.ExprTokens.{expr_token}
use Rattle.um_decls.specs.DeclMachine.{DeclBegin, RecordName, RecordVars, NoDecl, Expects, take_expected}
use Rattle.um_parse.specs.ReaderStates.{place_state}
use Rattle.um_decls.proofs.DeclTaken.{goes_on}
use Rattle.um_parse.proofs.decl_reader.DeclReader.take_record_name.Goals as goal

pub returns-in_ok-record-in-Name : goal.returns-in_ok-record-in-Name
returns-in_ok-record-in-Name c =
    let at = c.args.token.now.start in
    let letters = c.name_of-name.ensures ∙ c.take.ensures.letters in
    record {
      taken =
          goes_on NoDecl _ (Expects (RecordVars at c.in-Name.letters)) _
          (ap (λ p. place_state p c.put.new.self.function) c.put.ensures.place ∙ c.in_ok-record-in-Name.ensures ∙ ap (λ x. Expects (RecordVars at x)) letters)
          (ap (λ k. take_expected RecordName (expr_token k) at) c.in-Name.is) (λ e. cc) (omega arith);
      kept = sym (ap (λ k. take_expected DeclBegin (expr_token k) at) c.in-Name.is);
    }

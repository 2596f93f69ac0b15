use Rattle.std.proofs.Common.{refl, sym, ◌∙◌}
use Rattle.um_unit_texts.specs.UnitTokens.{unit_token}
use Rattle.um_unit_texts.specs.UnitView.{unit_state}
use Rattle.um_unit_texts.proofs.ForeignTokens.{foreign_refused}
use Rattle.um_unit_texts.proofs.unit_reader.UnitReaderReader.take.Goals as goal

pub returns-then-is_foreign : goal.returns-then-is_foreign
returns-then-is_foreign c =
    let token = c.args.token.now in
    record {
      taken = (foreign_refused (unit_state c.args.self.now) (unit_token token.kind) token.start (sym c.is_foreign.ensures ∙ c.if-is_foreign.true), refl);
      kept = λ e. refl;
    }

use Rattle.std.proofs.Common.{subst}
use Rattle.std.specs.Result.{IfOk}
use Rattle.um_text_details.specs.Expected.{AreExpected}
use Rattle.um_text_details.proofs.tell.expected.Goals as goal

pub returns-in-Ok : goal.returns-in-Ok
returns-in-Ok c = record {
  expected = subst (λ p. IfOk c.told_at-told.result (λ told. AreExpected p told.items)) c.new-trial.ensures c.told_at-told.ensures;
}

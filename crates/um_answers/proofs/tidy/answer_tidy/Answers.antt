use Rattle.std.proofs.Common.{IfOk, subst}
use Rattle.um_answers.specs.TidyAnswer.{TidyAnswer}
use Rattle.um_answers.proofs.tidy.answer_tidy.Goals as goal

pub returns-in-Ok : goal.returns-in-Ok
returns-in-Ok c =
    subst (λ bytes. IfOk c.answer_tokens.result (λ reply. TidyAnswer bytes reply.text.items reply.status)) c.into_parts-bytes.ensures.bytes c.answer_tokens.ensures

use Rattle.std.proofs.Common.{Ok, Err, ap, subst}
use Rattle.std.proofs.lemmas.Result.{IfOk-weaker}
use Rattle.um_verify.specs.ImageTree.{ImageTree, image_tree}
use Rattle.um_run.specs.ImageCalls.{image_call_tree, IsImageCallOf}
use Rattle.um_reports.specs.CallRefusals.{IsCallReply}
use Rattle.um_call_answers.specs.Calling.{asked_call}
use Rattle.um_call_answers.specs.ExecAnswer.{VerifiedAnswer, ImageRunAnswer}
use Rattle.um_call_answers.proofs.exec.answer_verified.Goals as goal

pub returns-in-Ok : goal.returns-in-Ok
unfolding VerifiedAnswer
returns-in-Ok c =
    let asked = asked_call c.args.call.now in let image = image_tree c.args.image.now in
    let call = image_call_tree c.in-Ok.read in
    let named = subst (λ (i : ImageTree). IsImageCallOf i asked.name asked.texts (Ok call)) (ap image_tree c.image.ensures.image) c.in-Ok.ensures.exact in
    IfOk-weaker c.reply_to_run-answer.result (λ reply. ImageRunAnswer asked.budget image call reply.text.items reply.status)
    (λ reply. VerifiedAnswer asked image reply.text.items reply.status)
    (λ reply says. (Ok call, named, says))
    c.reply_to_run-answer.ensures

pub returns-in-Err : goal.returns-in-Err
unfolding VerifiedAnswer
returns-in-Err c =
    let asked = asked_call c.args.call.now in let image = image_tree c.args.image.now in let refusal = c.in-Err.refusal in
    let named = subst (λ (i : ImageTree). IsImageCallOf i asked.name asked.texts (Err refusal)) (ap image_tree c.image.ensures.image) c.in-Err.ensures.exact in
    IfOk-weaker c.reply_to_call.result (λ reply. IsCallReply asked.texts refusal reply.text.items reply.status)
    (λ reply. VerifiedAnswer asked image reply.text.items reply.status)
    (λ reply says. (Err refusal, named, says))
    c.reply_to_call.ensures

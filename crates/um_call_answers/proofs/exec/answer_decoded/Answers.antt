use Rattle.std.proofs.Common.{inr}
use Rattle.std.proofs.lemmas.Result.{IfOk-weaker}
use Rattle.um_verify.specs.ImageTree.{image_tree}
use Rattle.um_verifier.specs.declared.stop.VerifyStop.TheVariants.{Head}
use Rattle.um_verifier.specs.Refusals.{IsRefusal}
use Rattle.um_reports.specs.ImageRefusals.{IsBadHeadReply}
use Rattle.um_call_answers.specs.Calling.{asked_call}
use Rattle.um_call_answers.specs.ExecAnswer.{DecodedAnswer}
use Rattle.um_call_answers.proofs.exec.answer_decoded.Goals as goal

pub returns-in-Err-Head : goal.returns-in-Err-Head
unfolding DecodedAnswer
returns-in-Err-Head c =
    let image = image_tree c.args.image in let index = c.in-Err-Head.index in
    let refused : IsRefusal image (Head index) = rw c.in-Err-Head.field-0-is at c.in-Err-Head.ensures.refused in
    IfOk-weaker c.reply_to_bad_head.result (λ reply. IsBadHeadReply index reply.text.items reply.status)
    (λ reply. DecodedAnswer (asked_call c.args.call.now) image reply.text.items reply.status)
    (λ reply says. inr (Head index, refused, says))
    c.reply_to_bad_head.ensures

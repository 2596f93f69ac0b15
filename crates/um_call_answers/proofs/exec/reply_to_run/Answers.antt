use Rattle.std.proofs.Common.{IfOk, None, slice_get, subst, ap, ◌∙◌}
use Rattle.std.proofs.lemmas.Result.{IfOk-weaker}
use Rattle.um_tree.specs.ValueTree.{outcome_tree}
use Rattle.um_machine.specs.Machine.{EndsWith}
use Rattle.um_verify.specs.ImageTree.{image_tree}
use Rattle.um_image.specs.ProgramImage.{type_of_shape}
use Rattle.um_run.specs.ImageCalls.{image_call_tree, image_call_values, image_program}
use Rattle.um_call_answers.specs.CallAnswer.{IsOutcomeReply}
use Rattle.um_call_answers.specs.ExecAnswer.{ImageRunAnswer}
use Rattle.um_call_answers.proofs.exec.reply_to_run.Goals as goal

pub returns : goal.returns
unfolding ImageRunAnswer
returns c =
    let image = image_tree c.args.image.now in let call = image_call_tree c.args.call.now in
    let head = c.requires.shaped.0 in let listed = c.requires.shaped.1.listed in
    let o = outcome_tree c.in_ok-outcome.outcome in
    let ends : EndsWith image.code call.function (image_call_values call) c.args.budget o =
    subst (λ vs. EndsWith image.code call.function vs c.args.budget o) c.in_ok-values.ensures c.in_ok-outcome.ensures.end in
    let own = ap image_tree c.image.ensures.image in
    let printed = c.reply_of_image-reply.ensures head (ap (λ i. slice_get i.heads call.function) own ∙ listed) in
    let here = subst (λ i. IfOk c.reply_of_image-reply.result (λ reply. IsOutcomeReply (image_program i) (type_of_shape head.result) o None reply.text.items reply.status)) own printed in
    IfOk-weaker c.reply_of_image-reply.result (λ reply. IsOutcomeReply (image_program image) (type_of_shape head.result) o None reply.text.items reply.status)
    (λ reply. ImageRunAnswer c.args.budget image call reply.text.items reply.status)
    (λ reply says. (head, listed, o, ends, says))
    here

use Rattle.std.proofs.Common.{ap, codes, length, ◌∙◌, arith}
use Rattle.std.proofs.lemmas.Result.{IfOk-weaker}
use Rattle.um_lines.specs.Sources.{call_lines}
use Rattle.um_reports.specs.declared.status.Status.TheVariants.{TooLong}
use Rattle.um_reports.specs.Steps.{line, IsReply}
use Rattle.um_front.specs.Parts.{checked_tree}
use Rattle.um_front.specs.Refused.{IsUnchecked}
use Rattle.um_call_answers.specs.CallsAnswer.{AreCallsAnswers, SourceAnswer}
use Rattle.um_call_answers.proofs.CallsAnswers.{long_source, source_of, source_refused}
use Rattle.um_call_answers.proofs.calls.answer_calls.Goals as goal

pub returns-then-source-gt-TEXT_LIMIT : goal.returns-then-source-gt-TEXT_LIMIT
returns-then-source-gt-TEXT_LIMIT c =
    let budget = c.args.budget in let bytes = c.args.bytes.now in
    let size = ap length c.cut_source-source.ensures.text in let long = c.if-source-gt-TEXT_LIMIT.true in
    IfOk-weaker c.reply_line.result (λ reply. IsReply reply.text.items reply.status (line (codes "error 2: text too long")) TooLong)
    (λ reply. SourceAnswer budget bytes reply.text.items reply.status)
    (λ reply is. long_source budget bytes reply.text.items reply.status (omega (arith, size, long)) is)
    c.reply_line.ensures

pub returns-in-Ok : goal.returns-in-Ok
returns-in-Ok c =
    let budget = c.args.budget in let bytes = c.args.bytes.now in let checked = checked_tree c.in-Ok.checked in
    let calls = c.cut_source-source.result.calls.now in
    let program = c.in_ok-text.ensures ∙ c.cut_source-source.ensures.text in
    IfOk-weaker c.answer_whole.result (λ reply. AreCallsAnswers budget (call_lines calls) checked reply.text.items reply.status)
    (λ reply. SourceAnswer budget bytes reply.text.items reply.status)
    (λ reply answers. source_of budget bytes c.in_ok-text.text calls checked reply.text.items reply.status program c.cut_source-source.ensures.calls c.in-Ok.ensures.checked answers)
    c.answer_whole.ensures

pub returns-in-Err : goal.returns-in-Err
returns-in-Err c =
    let budget = c.args.budget in let bytes = c.args.bytes.now in
    let program = c.in_ok-text.ensures ∙ c.cut_source-source.ensures.text in
    IfOk-weaker c.in-Err.refused (λ reply. IsUnchecked c.in_ok-text.text reply.text.items reply.status)
    (λ reply. SourceAnswer budget bytes reply.text.items reply.status)
    (λ reply refused. source_refused budget bytes c.in_ok-text.text reply.text.items reply.status program refused)
    c.in-Err.ensures.refused

use Rattle.std.proofs.Common.{codes}
use Rattle.std.proofs.lemmas.Result.{IfOk-weaker}
use Rattle.um_reports.specs.declared.status.Status.TheVariants.{TooLong}
use Rattle.um_reports.specs.Steps.{line, IsReply}
use Rattle.um_front.specs.Refused.{IsUnchecked}
use Rattle.um_front.proofs.TooLongTexts.{too_long_unchecked}
use Rattle.um_embed.proofs.opened.kept.Goals as goal

pub returns-then-bytes-gt-TEXT_LIMIT-clause-refused : goal.returns-then-bytes-gt-TEXT_LIMIT-clause-refused
returns-then-bytes-gt-TEXT_LIMIT-clause-refused c =
    let bytes = c.args.bytes.now in
    IfOk-weaker c.reply_line.result (λ reply. IsReply reply.text.items reply.status (line (codes "error 2: text too long")) TooLong)
    (λ reply. IsUnchecked bytes reply.text.items reply.status)
    (λ reply is. too_long_unchecked bytes reply.text.items reply.status c.if-bytes-gt-TEXT_LIMIT.true is)
    c.reply_line.ensures

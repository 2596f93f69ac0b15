use Rattle.std.proofs.Common.{◌≡◌, Err, refl}
use Rattle.um_orders.specs.Orders.{order_about}
use Rattle.um_tool.proofs.Serving.{if_ok, order_planned, unread_planned, unread_calm}
use Rattle.um_tool.proofs.top.reply_to_text.Goals as goal

pub returns-in_ok-into_text-in-Ok-clause-planned : goal.returns-in_ok-into_text-in-Ok-clause-planned
returns-in_ok-into_text-in-Ok-clause-planned g c =
    let bytes = c.read_into.new.taker in
    let same : c.in_ok-into_text-in-Ok.field-0 ≡ bytes = c.in_ok-into_text-in-Ok.ensures in
    if_ok c.answer_text.result
    (λ reply answer. order_planned c.args.words.now (g.S.Source.left c.args.source.now) (g.S.Source.faults c.args.source.now) (g.S.Source.faults c.read_into.new.source) (order_about c.args.order) bytes reply.text.items reply.status c.requires.ordered c.in-Ok.ensures.text (rw (← same) answer))
    c.answer_text.ensures

pub returns-in-Err-clause-planned : goal.returns-in-Err-clause-planned
returns-in-Err-clause-planned g c =
    if_ok c.reply_to_unread.result
    (λ reply is. unread_planned (Err c.in-Err.stop) c.in-Err.stop c.args.words.now (g.S.Source.left c.args.source.now) (g.S.Source.faults c.args.source.now) (g.S.Source.faults c.read_into.new.source) c.args.order reply.text.items reply.status c.requires.units c.requires.ordered refl c.in-Err.ensures.too_long c.in-Err.ensures.failed is)
    c.reply_to_unread.ensures

pub returns-in-Err-clause-reads_told : goal.returns-in-Err-clause-reads_told
returns-in-Err-clause-reads_told g c =
    if_ok c.reply_to_unread.result
    (λ reply is. unread_calm (Err c.in-Err.stop) c.in-Err.stop (g.S.Source.faults c.args.source.now) (g.S.Source.faults c.read_into.new.source) reply.text.items reply.status refl c.in-Err.ensures.no_fault is)
    c.reply_to_unread.ensures

use Rattle.std.proofs.Common.{Err, refl}
use Rattle.um_orders.specs.Orders.{order_about_bytes}
use Rattle.um_tool.proofs.Serving.{if_ok, order_planned, bytes_unread, unread_calm}
use Rattle.um_tool.proofs.top.reply_to_bytes.Goals as goal

pub returns-in-Ok-clause-planned : goal.returns-in-Ok-clause-planned
returns-in-Ok-clause-planned g c =
    let bytes = c.in-Ok.bytes.items in
    if_ok c.answer_bytes.result
    (λ reply answer. order_planned c.args.words.now (g.S.Source.left c.args.source.now) (g.S.Source.faults c.args.source.now) (g.S.Source.faults c.read_text.new.source) (order_about_bytes c.args.order) bytes reply.text.items reply.status c.requires.ordered c.in-Ok.ensures.text (rw c.deref.ensures.value at answer))
    c.answer_bytes.ensures

pub returns-in-Err-clause-planned : goal.returns-in-Err-clause-planned
returns-in-Err-clause-planned g c =
    if_ok c.reply_to_unread.result
    (λ reply is. bytes_unread c.args.words.now (g.S.Source.left c.args.source.now) (g.S.Source.faults c.args.source.now) (g.S.Source.faults c.read_text.new.source) c.args.order c.requires.ordered (Err c.in-Err.stop) c.in-Err.stop reply.text.items reply.status refl c.in-Err.ensures.too_long c.in-Err.ensures.failed is)
    c.reply_to_unread.ensures

pub returns-in-Err-clause-reads_told : goal.returns-in-Err-clause-reads_told
returns-in-Err-clause-reads_told g c =
    if_ok c.reply_to_unread.result
    (λ reply is. unread_calm (Err c.in-Err.stop) c.in-Err.stop (g.S.Source.faults c.args.source.now) (g.S.Source.faults c.read_text.new.source) reply.text.items reply.status refl c.in-Err.ensures.no_fault is)
    c.reply_to_unread.ensures

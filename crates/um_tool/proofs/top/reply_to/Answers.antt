use Rattle.std.proofs.Common.{sym}
use Rattle.um_sig.proofs.UniqueReadings.{readings_are_unique}
use Rattle.um_tool.proofs.Serving.{if_ok, usage_planned, planned_read_fault, planned_write_fault, planned_no_memory}
use Rattle.um_tool.proofs.Complete.{planned_complete}
use Rattle.um_tool.proofs.top.reply_to.Goals as goal

pub returns-in-None-clause-planned : goal.returns-in-None-clause-planned
returns-in-None-clause-planned g c =
    if_ok c.reply_line.result
    (λ reply is. usage_planned c.args.words.now (g.S.Source.left c.args.source.now) _ _ reply.text.items reply.status c.in-None.ensures is)
    c.reply_line.ensures

pub reply_to_order-requires : goal.reply_to_order-requires
reply_to_order-requires g c = record { ordered = sym c.in-Some.ensures }

pub returns-in-Some-clause-read_fault : goal.returns-in-Some-clause-read_fault
returns-in-Some-clause-read_fault g c =
    if_ok c.reply_to_order.result
    (λ reply planned. planned_read_fault c.args.words.now (g.S.Source.left c.args.source.now) _ _ reply.text.items reply.status planned)
    c.reply_to_order.ensures.planned

pub returns-in-Some-clause-not_write_fault : goal.returns-in-Some-clause-not_write_fault
returns-in-Some-clause-not_write_fault g c =
    if_ok c.reply_to_order.result
    (λ reply planned. planned_write_fault c.args.words.now (g.S.Source.left c.args.source.now) (g.S.Source.faults c.args.source.now) (g.S.Source.faults c.reply_to_order.new.source) reply.text.items reply.status planned)
    c.reply_to_order.ensures.planned

pub returns-in-Some-clause-complete : goal.returns-in-Some-clause-complete
returns-in-Some-clause-complete g c =
    if_ok c.reply_to_order.result
    (λ reply planned undisturbed. planned_complete readings_are_unique c.answers_of_images.ensures.done c.args.words.now (g.S.Source.left c.args.source.now) _ _ reply.text.items reply.status planned undisturbed)
    c.reply_to_order.ensures.planned

pub returns-in-Some-clause-not_no_memory : goal.returns-in-Some-clause-not_no_memory
returns-in-Some-clause-not_no_memory g c =
    if_ok c.reply_to_order.result
    (λ reply planned. planned_no_memory c.args.words.now (g.S.Source.left c.args.source.now) (g.S.Source.faults c.args.source.now) (g.S.Source.faults c.reply_to_order.new.source) reply.text.items reply.status planned)
    c.reply_to_order.ensures.planned

use Rattle.std.proofs.Common.{Some, sym, ap, ◌∙◌}
use Rattle.um_orders.specs.declared.order.Order.TheVariants.{Big}
use Rattle.um_orders.proofs.OrderWords.{order_of_generated, words_of_order}
use Rattle.um_tool.proofs.Serving.{if_ok, generated_planned}
use Rattle.um_tool.proofs.top.reply_to_stated.Goals as goal

pub answer_big-requires : goal.answer_big-requires
answer_big-requires g c =
    let n = c.in-Generated.functions in
    let order = order_of_generated c.args.order n (sym c.intake.ensures ∙ c.in-Generated.is) in
    let few = words_of_order c.args.words.now (Big n) (c.requires.ordered ∙ ap Some order) in
    record { some = few.0; few = few.1 }

pub returns-in-Generated-clause-planned : goal.returns-in-Generated-clause-planned
returns-in-Generated-clause-planned g c =
    let n = c.in-Generated.functions in
    let order = order_of_generated c.args.order n (sym c.intake.ensures ∙ c.in-Generated.is) in
    if_ok c.answer_big.result
    (λ reply answer. generated_planned c.args.words.now (g.S.Source.left c.args.source.now) _ _ n reply.text.items reply.status (c.requires.ordered ∙ ap Some order) answer)
    c.answer_big.ensures

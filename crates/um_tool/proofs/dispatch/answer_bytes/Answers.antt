use Rattle.std.proofs.Common.{IfOk, Some, sym, ap, subst, ◌∙◌, arith}
use Rattle.um_orders.specs.declared.order.Order.TheVariants.{Exec, Calls}
use Rattle.um_orders.specs.declared.order.BytesOrder.{BytesOrder}
use Rattle.um_orders.specs.declared.order.BytesOrder.TheVariants as bytes_order
use Rattle.um_orders.specs.Orders.{order_about_bytes}
use Rattle.um_orders.proofs.OrderWords.{short_words, words_of_order}
use Rattle.um_call_answers.specs.AskedCall.{AskedCall}
use Rattle.um_call_answers.specs.ExecAnswer.{BytesAnswer}
use Rattle.um_tool.specs.Answer.{ByOrder}
use Rattle.um_tool.proofs.Serving.{if_ok, few_bytes}
use Rattle.um_tool.proofs.dispatch.answer_bytes.Goals as goal

pub called-requires-clause-many : goal.called-requires-clause-many
called-requires-clause-many c =
    let named = c.requires.ordered ∙ ap (λ (o : BytesOrder). Some (order_about_bytes o)) c.in-Exec.is in
    let many = (words_of_order c.args.words.now (Exec c.in-Exec.budget) named).0 in
    omega (arith, many)

pub called-requires-clause-small : goal.called-requires-clause-small
called-requires-clause-small c =
    let named = c.requires.ordered ∙ ap (λ (o : BytesOrder). Some (order_about_bytes o)) c.in-Exec.is in
    (words_of_order c.args.words.now (Exec c.in-Exec.budget) named).1

pub called-requires-clause-short : goal.called-requires-clause-short
called-requires-clause-short c =
    let named = c.requires.ordered ∙ ap (λ (o : BytesOrder). Some (order_about_bytes o)) c.in-Exec.is in
    short_words c.args.words.now (Exec c.in-Exec.budget) named

pub returns-in-Exec : goal.returns-in-Exec
returns-in-Exec c =
    let bytes = c.args.bytes.now in let words = c.args.words.now in
    subst (λ (o : BytesOrder). IfOk c.answer_exec.result (λ reply. ByOrder (order_about_bytes o) words bytes reply.text.items reply.status)) (sym c.in-Exec.is)
    (if_ok c.answer_exec.result
    (λ reply answer. few_bytes (bytes_order.Exec c.in-Exec.budget) words bytes reply.text.items reply.status c.requires.few (subst (λ (asked : AskedCall). BytesAnswer asked bytes reply.text.items reply.status) c.called.ensures.call answer))
    c.answer_exec.ensures)

pub answer_calls-requires : goal.answer_calls-requires
answer_calls-requires c =
    let named = c.requires.ordered ∙ ap (λ (o : BytesOrder). Some (order_about_bytes o)) c.in-Calls.is in
    record { small = words_of_order c.args.words.now (Calls c.in-Calls.budget) named }

pub returns-in-Calls : goal.returns-in-Calls
returns-in-Calls c =
    let bytes = c.args.bytes.now in let words = c.args.words.now in
    subst (λ (o : BytesOrder). IfOk c.answer_calls.result (λ reply. ByOrder (order_about_bytes o) words bytes reply.text.items reply.status)) (sym c.in-Calls.is)
    (if_ok c.answer_calls.result
    (λ reply answer. few_bytes (bytes_order.Calls c.in-Calls.budget) words bytes reply.text.items reply.status c.requires.few answer)
    c.answer_calls.ensures)

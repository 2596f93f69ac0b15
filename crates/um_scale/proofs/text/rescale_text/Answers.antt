use Rattle.std.proofs.Common.{sym, subst, length, arith}
use Rattle.um_syntax.specs.Order.{AreInOrder}
use Rattle.um_syntax.proofs.InOrder.{tokens_in_order}
use Rattle.um_scale.proofs.text.rescale_text.Goals as goal

pub respelled_by-result-requires-clause-in_order : goal.respelled_by-result-requires-clause-in_order
respelled_by-result-requires-clause-in_order c =
    let tokens = c.in-Ok.tokens in
    subst (λ ts. AreInOrder 0 ts (length c.as_bytes.result.now)) (sym c.as_slice.ensures)
    (subst (λ bytes. AreInOrder 0 tokens (length bytes)) (sym c.as_bytes.ensures.value) (tokens_in_order c.args.text.now tokens 0 (omega arith) c.utf8.text c.in-Ok.ensures.ok))

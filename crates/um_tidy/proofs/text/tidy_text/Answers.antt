use Rattle.std.proofs.Common.{sym, subst, length, arith}
use Rattle.std.specs.Str.{chars}
use Rattle.um_syntax.specs.Lexing.{body_place}
use Rattle.um_syntax.specs.Order.{AreInOrder}
use Rattle.um_syntax.proofs.InOrder.{tokens_in_order}
use Rattle.um_tidy.proofs.text.tidy_text.Goals as goal

pub tidied_from-requires-clause-in_order : goal.tidied_from-requires-clause-in_order
tidied_from-requires-clause-in_order c =
    let text = c.args.text.now in
    let tokens = c.args.tokens.now in
    subst (λ bytes. AreInOrder c.mark_len.result tokens (length bytes)) (sym c.as_bytes.ensures.value)
    (subst (λ at. AreInOrder at tokens (length text)) (sym c.mark_len.ensures) (tokens_in_order text tokens (body_place (chars text)) (omega arith) c.utf8.text c.requires.tokens))

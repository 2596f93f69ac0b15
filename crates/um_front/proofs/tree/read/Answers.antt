use Rattle.std.proofs.Common.{ℕ, List, IfErr, IfOk, subst}
use Rattle.um_front.specs.Refused.{IsUnread}
use Rattle.um_front.proofs.tree.read.Goals as goal

pub returns-in-Ok-clause-refused : goal.returns-in-Ok-clause-refused
returns-in-Ok-clause-refused c =
    subst (λ (bytes : List ℕ). IfErr c.read_tokens.result (λ answer. IfOk answer (λ reply. IsUnread bytes reply.text.items reply.status)))
    c.into_parts-bytes.ensures.bytes c.read_tokens.ensures.refused

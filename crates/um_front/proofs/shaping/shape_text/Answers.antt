use Rattle.std.proofs.Common.{ℕ, List, IfErr, IfOk, subst}
use Rattle.um_front.specs.Refused.{IsUnshaped}
use Rattle.um_front.proofs.shaping.shape_text.Goals as goal

pub returns-in-Ok-clause-refused : goal.returns-in-Ok-clause-refused
returns-in-Ok-clause-refused c =
    subst (λ (bytes : List ℕ). IfErr c.shape_read.result (λ answer. IfOk answer (λ reply. IsUnshaped bytes reply.text.items reply.status)))
    c.in-Ok.ensures.bytes c.shape_read.ensures.refused

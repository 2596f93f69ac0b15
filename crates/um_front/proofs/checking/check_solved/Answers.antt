use Rattle.std.proofs.Common.{ℕ, List, IfErr, IfOk, subst}
use Rattle.um_front.specs.Refused.{IsUnchecked}
use Rattle.um_front.proofs.checking.check_solved.Goals as goal

pub returns-in-Ok-clause-refused : goal.returns-in-Ok-clause-refused
returns-in-Ok-clause-refused c =
    subst (λ (bytes : List ℕ). IfErr c.solve_shaped.result (λ answer. IfOk answer (λ reply. IsUnchecked bytes reply.text.items reply.status)))
    c.in-Ok.ensures.bytes c.solve_shaped.ensures.refused

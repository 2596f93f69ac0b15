use Rattle.std.proofs.Common.{inl, inr, refl, arith}
use Rattle.um_elim.proofs.in_order.behind_variable.Goals as goal

pub returns-then-variable-next : goal.returns-then-variable-next
returns-then-variable-next c = inl (c.if-variable-next.true, refl)

pub returns : goal.returns
returns c = inr (omega (arith, c.if-variable-next.false, c.if-next-variable.false), omega arith)

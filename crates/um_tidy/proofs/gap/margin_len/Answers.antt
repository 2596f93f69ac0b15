use Rattle.std.proofs.Common.{arith}
use Rattle.um_tidy.proofs.gap.margin_len.Goals as goal

pub returns-clause-len : goal.returns-clause-len
returns-clause-len c = let end = c.space_end.ensures.end in omega (arith, end)

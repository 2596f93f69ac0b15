use Rattle.std.proofs.Common.{arith}
use Rattle.um_tidy.proofs.gap.line_len.Goals as goal

pub returns-in-Some-clause-len : goal.returns-in-Some-clause-len
returns-in-Some-clause-len c = let first = c.in-Some.ensures.first in omega (arith, first)

pub returns-in-None-clause-len : goal.returns-in-None-clause-len
returns-in-None-clause-len c = let first = c.in-None.ensures.first in omega (arith, first)

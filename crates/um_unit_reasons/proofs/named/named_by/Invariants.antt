use Rattle.std.proofs.Common.{None, get_or}
use Rattle.um_unit_reasons.proofs.NamedSteps.{NamedLeft}
use Rattle.um_unit_reasons.proofs.named.named_by.Given as goal

abbrev pub invariant-loop-v : goal.invariant-loop-v
invariant-loop-v l = NamedLeft (λ v. get_or l.variables v None) l.names l.v l.named.items

use Rattle.std.proofs.Common.{◌≡◌, take, map, nat_abs}
use Rattle.um_pivots.specs.Quotients.{less_quotient}
use Rattle.um_elim.proofs.elim_step.negated_quotients.Given as goal

abbrev pub invariant-loop-term : goal.invariant-loop-term
invariant-loop-term l = l.out.items ≡ map (less_quotient l.m (nat_abs l.p)) (take l.term-index l.terms)

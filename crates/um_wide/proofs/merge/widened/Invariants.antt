use Rattle.std.proofs.Common.{◌≡◌, take}
use Rattle.um_units.specs.Wide.{as_terms}
use Rattle.um_wide.proofs.merge.widened.Given as goal

abbrev pub invariant-loop-term : goal.invariant-loop-term
invariant-loop-term l = as_terms l.out.items ≡ take l.term-index l.terms

use Rattle.um_units.specs.Wide.{as_terms}
use Rattle.um_wide.proofs.Scaling.{IsScaling}
use Rattle.um_wide.proofs.merge.scaled.Given as goal

abbrev pub invariant-loop-term : goal.invariant-loop-term
invariant-loop-term l = IsScaling l.k l.terms (as_terms l.out.items) l.term-index

use Rattle.std.proofs.Common.{◌≡◌, take, map}
use Rattle.um_rows.specs.Generalised.{generalised_term}
use Rattle.um_infer.proofs.general.generalised_terms.Given as goal

abbrev pub invariant-loop-term : goal.invariant-loop-term
invariant-loop-term l = l.out.items ≡ map (generalised_term l.bases l.parameters l.slots) (take l.term-index l.terms)

use Rattle.std.proofs.Common.{◌≡◌, map, take}
use Rattle.um_units.specs.Wide.{as_term}
use Rattle.um_kept.proofs.past.narrow_unit.Given as goal

abbrev pub invariant-loop-term : goal.invariant-loop-term
invariant-loop-term l = l.terms.items ≡ map as_term (take l.term-index l.term-items)

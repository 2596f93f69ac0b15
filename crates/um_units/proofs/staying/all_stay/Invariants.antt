use Rattle.std.proofs.Common.{◌≡◌, All, take}
use Rattle.um_units.specs.declared.Term.{Term}
use Rattle.um_units.specs.PowerMap.{atom, image, nth}
use Rattle.um_units.proofs.staying.all_stay.Given as goal

abbrev pub invariant-loop-term : goal.invariant-loop-term
invariant-loop-term l = All (λ (term : Term). image (nth l.by) term.atom ≡ atom term.atom) (take l.term-index l.terms)

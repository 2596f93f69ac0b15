use Rattle.std.proofs.Common.{◌≡◌, filter, take}
use Rattle.um_units.specs.declared.Term.{Term}
use Rattle.um_proof.specs.Renaming.{is_base}
use Rattle.um_proof.proofs.yes.base_terms.Given as goal

abbrev pub invariant-loop-term : goal.invariant-loop-term
invariant-loop-term l = l.out.items ≡ filter (λ (t : Term). is_base t.atom) (take l.term-index l.terms)

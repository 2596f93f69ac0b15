use Rattle.std.proofs.Common.{◌≡◌, map, take}
use Rattle.um_units.specs.declared.Atom.TheVariants.{Var}
use Rattle.um_units.specs.Wide.{as_term}
use Rattle.um_check.specs.declared.certificate.Part.{Part}
use Rattle.um_kept.proofs.made.parts_of.Given as goal

abbrev pub invariant-loop-term : goal.invariant-loop-term
invariant-loop-term l = map (λ (p : Part). record { atom = Var p.row; power = p.times }) l.items.items ≡ map as_term (take l.term-index l.term-items)

use Rattle.std.proofs.Common.{◌≡◌, take, map, negsuc}
use Rattle.um_units.specs.PowerMap.{scale}
use Rattle.um_units.proofs.inverted.Given as goal

abbrev pub invariant-loop-term : goal.invariant-loop-term
invariant-loop-term l = l.out ≡ map (scale (negsuc 0)) (take l.term-index l.terms)

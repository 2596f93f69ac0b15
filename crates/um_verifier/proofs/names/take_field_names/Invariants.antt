use Rattle.std.proofs.Common.{map, take}
use Rattle.um_verifier.specs.Names.{AreTaken}
use Rattle.um_verifier.proofs.names.take_field_names.Given as goal

abbrev pub invariant-loop-i : goal.invariant-loop-i
invariant-loop-i l = AreTaken l.fn.taken (take l.i (map (λ f. f.name) l.fields)) l.taken

use Rattle.std.proofs.Common.{◌≡◌, List, take, map}
use Rattle.um_units.specs.PowerMap.{PowerMap}
use Rattle.um_tree.specs.TypeTree.{num_type, type_tree}
use Rattle.um_proof.proofs.renaming.units_of.Given as goal

abbrev pub invariant-loop-ty : goal.invariant-loop-ty
invariant-loop-ty l = (units : List PowerMap) → map type_tree l.types ≡ map num_type units → l.out.items ≡ take l.ty-index units

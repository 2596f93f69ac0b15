use Rattle.std.proofs.Common.{◌≡◌, ◌++◌, take, map}
use Rattle.um_tree.specs.TypeTree.{num_type, type_tree}
use Rattle.um_proof.proofs.renaming.add_units.Given as goal

abbrev pub invariant-loop-unit : goal.invariant-loop-unit
invariant-loop-unit l = map type_tree l.items.items ≡ map type_tree l.initial.items.items ++ map num_type (take l.unit-index l.units)

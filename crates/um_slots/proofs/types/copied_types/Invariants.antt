use Rattle.std.proofs.Common.{◌≡◌, take, map}
use Rattle.um_tree.specs.TypeTree.{type_tree}
use Rattle.um_slots.proofs.types.copied_types.Given as goal

abbrev pub invariant-loop-ty : goal.invariant-loop-ty
invariant-loop-ty l = map type_tree l.items.items ≡ map type_tree (take l.ty-index l.types)

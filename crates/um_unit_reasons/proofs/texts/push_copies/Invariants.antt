use Rattle.std.proofs.Common.{◌≡◌, ◌++◌, map, take}
use Rattle.um_tree.specs.TypeTree.{type_tree}
use Rattle.um_unit_reasons.proofs.texts.push_copies.Given as goal

abbrev pub invariant-loop-ty : goal.invariant-loop-ty
invariant-loop-ty l = map type_tree l.all.items ≡ map type_tree l.initial.all.items ++ map type_tree (take l.ty-index l.types)

use Rattle.std.proofs.Common.{◌≡◌, ◌++◌, take, map}
use Rattle.um_units.specs.PowerMap.{nth}
use Rattle.um_tree.specs.TypeTree.{type_tree}
use Rattle.um_tree.specs.Typing.{put}
use Rattle.um_proof.proofs.renaming.add_types.Given as goal

abbrev pub invariant-loop-ty : goal.invariant-loop-ty
invariant-loop-ty l = map type_tree l.items.items ≡ map type_tree l.initial.items.items ++ map (put (nth l.units)) (map type_tree (take l.ty-index l.types))

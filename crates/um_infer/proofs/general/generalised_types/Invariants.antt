use Rattle.std.proofs.Common.{◌≡◌, take, map}
use Rattle.um_tree.specs.TypeTree.{type_tree}
use Rattle.um_tree.specs.Typing.{moved}
use Rattle.um_rows.specs.Generalised.{generalised_unit}
use Rattle.um_infer.proofs.general.generalised_types.Given as goal

abbrev pub invariant-loop-ty : goal.invariant-loop-ty
invariant-loop-ty l = map type_tree l.items.items ≡ map (λ t. moved (generalised_unit l.bases l.parameters l.slots) (type_tree t)) (take l.ty-index l.types)

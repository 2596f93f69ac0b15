use Rattle.std.proofs.Common.{take}
use Rattle.std.specs.List.{flat_map}
use Rattle.um_tree.specs.declared.types.Ty.{Ty}
use Rattle.um_tree.specs.TypeTree.{type_tree}
use Rattle.um_tree.specs.Scheme.{type_variables, FirstComeInOrder}
use Rattle.um_elim.proofs.in_order.numbered_already.Given as goal

abbrev pub invariant-loop-ty : goal.invariant-loop-ty
invariant-loop-ty l = FirstComeInOrder 0 (flat_map (λ (t : Ty). type_variables (type_tree t)) (take l.ty-index l.types)) l.last

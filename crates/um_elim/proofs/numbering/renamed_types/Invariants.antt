use Rattle.std.proofs.Common.{◌≡◌, take, map}
use Rattle.std.specs.List.{flat_map}
use Rattle.um_tree.specs.TypeTree.{type_tree}
use Rattle.um_tree.specs.Typing.{put}
use Rattle.um_tree.specs.Scheme.{type_variables}
use Rattle.um_elim.specs.Numbering.{by_place}
use Rattle.um_elim.specs.Order.{with_variables}
use Rattle.um_elim.proofs.numbering.renamed_types.Given as goal

abbrev pub invariant-loop-ty : goal.invariant-loop-ty
invariant-loop-ty l = record {
  order : l.order ≡ with_variables l.initial.order (flat_map (λ t. type_variables (type_tree t)) (take l.ty-index l.types));
  items : map type_tree l.items.items ≡ map (λ t. put (by_place l.order) (type_tree t)) (take l.ty-index l.types);
}

use Rattle.std.proofs.Common.{◌≡◌, map, take, true}
use Rattle.std.specs.List.{list_all}
use Rattle.um_units.specs.PowerMap.{nth}
use Rattle.um_tree.specs.TypeTree.{type_tree}
use Rattle.um_tree.specs.Typing.{put}
use Rattle.um_elim.specs.Application.{type_fits}
use Rattle.um_solving.proofs.types.solved_params.Given as goal

abbrev pub invariant-loop-ty : goal.invariant-loop-ty
invariant-loop-ty l = record {
  solved : map type_tree l.items.items ≡ map (λ ty. put (nth l.solver.units) (type_tree ty)) (take l.ty-index l.params);
  fit : list_all type_fits (map type_tree l.items.items) ≡ true;
}

use Rattle.std.proofs.Common.{◌≡◌, ◌++◌, map, take, length, None}
use Rattle.um_tree.specs.TypeTree.{type_tree}
use Rattle.um_annot.specs.Annotated.{node_types, first_past}
use Rattle.um_annot.specs.Answers.{solved_nodes}
use Rattle.um_annot.specs.Placing.{placed_nodes}
use Rattle.um_annot.proofs.PlacedNodes.{AreLeft}
use Rattle.um_annot.proofs.annotation.push_solved.Given as goal

abbrev pub invariant-loop-placed : goal.invariant-loop-placed
invariant-loop-placed l = record {
  count : length l.nodes.items ≡ length l.fn.nodes.items;
  left : AreLeft l.nodes.items l.fn.nodes.items l.order l.placed-index;
  solved : map type_tree l.types.items ≡ map type_tree l.fn.types.items ++ node_types (solved_nodes l.solver.units (placed_nodes l.fn.nodes.items (take l.placed-index l.order)));
  range : first_past (solved_nodes l.solver.units (placed_nodes l.fn.nodes.items (take l.placed-index l.order))) ≡ None;
}

use Rattle.std.proofs.Common.{◌≡◌, ◌+◌, List, length, drop}
use Rattle.std.specs.Prelude.{IsTrue}
use Rattle.um_tree.specs.ValueTree.{ValueTree, values_in_order}
use Rattle.um_cells.specs.Denotes.{ListFrom, list_from}
use Rattle.um_cells.specs.Stores.{Keeps, AllDenote, cell_count}
use Rattle.um_cells.specs.Formed.{holds}
use Rattle.um_cells.proofs.store.Store.make_list.Given as goal

abbrev pub invariant-loop-i : goal.invariant-loop-i
invariant-loop-i l = record {
  keeps : Keeps l.fn.self l.self;
  list : (vs : List ValueTree) → AllDenote l.fn.self l.items vs → ListFrom l.self.cells.items l.first (values_in_order (drop l.i vs));
  holds : IsTrue (holds l.self.cells.items (list_from l.first));
  cells : cell_count l.self + l.i ≡ cell_count l.fn.self + length l.items;
}

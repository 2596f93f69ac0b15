use Rattle.std.proofs.Common.{◌≡◌, ◌+◌, ◌*◌, ◌≤◌, map, length, Some}
use Rattle.std.specs.Prelude.{IsTrue}
use Rattle.um_tree.specs.ValueTree.{ValueTrees, value_tree}
use Rattle.um_cells.specs.Denotes.{ListFrom, PartsFrom}
use Rattle.um_cells.proofs.Walking.{reach, reach_of_next, next_is_item, followed}
use Rattle.um_cells.proofs.store.Store.+get.Given as goal

abbrev pub decreases-get : goal.decreases-get
decreases-get l = 2 * reach l.word + 1

abbrev pub decreases-items_from : goal.decreases-items_from
decreases-items_from l = 2 * (l.n + 1)

abbrev pub decreases-parts_of : goal.decreases-parts_of
decreases-parts_of l = 2 * (l.n + 1)

abbrev pub invariant-items_from-loop-next : goal.invariant-items_from-loop-next
invariant-items_from-loop-next l = record {
  within : reach_of_next l.next ≤ l.n + 1;
  item : IsTrue (next_is_item l.self.cells.items l.next);
  list : (us : ValueTrees) → ListFrom l.self.cells.items l.next us → ListFrom l.self.cells.items (Some l.n) (followed (map value_tree l.items.items) us);
}

abbrev pub decreases-items_from-loop-next : goal.decreases-items_from-loop-next
decreases-items_from-loop-next l = reach_of_next l.next

abbrev pub invariant-parts_of-loop-k : goal.invariant-parts_of-loop-k
invariant-parts_of-loop-k l = record {
  many : length l.parts.items ≡ l.k;
  parts : (us : ValueTrees) → PartsFrom l.self.cells.items (l.n + 1 + l.k) us → PartsFrom l.self.cells.items (l.n + 1) (followed (map value_tree l.parts.items) us);
}

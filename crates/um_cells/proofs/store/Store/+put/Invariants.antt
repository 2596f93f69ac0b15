use Rattle.std.proofs.Common.{map, take}
use Rattle.um_tree.specs.ValueTree.{value_tree}
use Rattle.um_cells.specs.Stores.{Keeps, AllDenote}
use Rattle.um_cells.proofs.store.Store.+put.Given as goal

abbrev pub invariant-put_each-loop-i : goal.invariant-put_each-loop-i
invariant-put_each-loop-i l = record {
  keeps : Keeps l.fn.self l.self;
  denote : AllDenote l.self l.words.items (map value_tree (take l.i l.values));
}

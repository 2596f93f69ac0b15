use Rattle.std.proofs.Common.{◌≡◌, ◌++◌, map}
use Rattle.um_measures.proofs.NameLists.{texts}
use Rattle.um_measures.proofs.table.NameTable.in_order.Given as goal

abbrev pub invariant-loop-name : goal.invariant-loop-name
invariant-loop-name l = map (λ name. name.now) l.names.items ++ texts l.name-iterator ≡ l.self

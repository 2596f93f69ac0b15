use Rattle.std.proofs.Common.{◌≡◌, map, take}
use Rattle.um_tree.specs.ProgramTree.{record_tree}
use Rattle.um_scale.proofs.copies.copied_records.Given as goal

abbrev pub invariant-loop-declared : goal.invariant-loop-declared
invariant-loop-declared l = map record_tree l.items.items ≡ map record_tree (take l.declared-index l.records)

use Rattle.std.proofs.Common.{map, take}
use Rattle.std.specs.Prelude.{string_bytes}
use Rattle.um_tree.specs.TypeTree.{shape_tree}
use Rattle.um_tree.specs.ValueTree.{input_tree}
use Rattle.um_run.specs.Calls.{AreInputs}
use Rattle.um_run.specs.Reading.{known_names}
use Rattle.um_run.proofs.argument.read_arguments.Given as goal

abbrev pub invariant-loop-k : goal.invariant-loop-k
invariant-loop-k l = AreInputs (known_names l.known) (take l.k (map shape_tree l.shapes)) (take l.k (map string_bytes l.texts)) (map input_tree l.items.items)

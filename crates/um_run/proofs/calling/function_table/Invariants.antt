use Rattle.std.proofs.Common.{◌≡◌, map, take}
use Rattle.um_tree.specs.ProgramTree.{function_tree}
use Rattle.um_measures.specs.Known.{function_names}
use Rattle.um_run.proofs.calling.function_table.Given as goal

abbrev pub invariant-loop-function : goal.invariant-loop-function
invariant-loop-function l = l.names ≡ take l.function-index (function_names (map function_tree l.functions))

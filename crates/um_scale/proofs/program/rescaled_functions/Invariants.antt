use Rattle.std.proofs.Common.{◌≡◌, map, take}
use Rattle.um_tree.specs.ProgramTree.{function_tree}
use Rattle.um_scale.specs.RescaledLiterals.{rescaled_function}
use Rattle.um_scale.proofs.program.rescaled_functions.Given as goal

abbrev pub invariant-loop-function : goal.invariant-loop-function
invariant-loop-function l = map function_tree l.items.items ≡ map (λ f. rescaled_function l.scales (function_tree f)) (take l.function-index l.functions)

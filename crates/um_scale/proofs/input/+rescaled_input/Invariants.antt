use Rattle.std.proofs.Common.{◌≡◌, map, take}
use Rattle.um_tree.specs.ValueTree.{input_tree}
use Rattle.um_scale.specs.RescaledInputs.{rescaled_input}
use Rattle.um_scale.proofs.input.+rescaled_input.Given as goal

abbrev pub invariant-each_rescaled-loop-i : goal.invariant-each_rescaled-loop-i
invariant-each_rescaled-loop-i l = map input_tree l.items.items ≡ map (λ i. rescaled_input l.scales (input_tree i)) (take l.i l.inputs)

use Rattle.std.proofs.Common.{◌≡◌, map, take, None}
use Rattle.um_tree.specs.ValueTree.{input_tree}
use Rattle.um_scale.specs.RescaledInputs.{rescaled_input}
use Rattle.um_call_answers.specs.TwinAnswer.{misfit_among}
use Rattle.um_call_answers.proofs.arguments.rescaled_arguments.Given as goal

abbrev pub invariant-loop-k : goal.invariant-loop-k
invariant-loop-k l =
    (misfit_among l.scales (take l.k (map input_tree l.inputs)) ≡ None)
    × (map input_tree l.items.items ≡ map (rescaled_input l.scales) (take l.k (map input_tree l.inputs)))

use Rattle.std.proofs.Common.{◌≡◌, map, rules}
use Rattle.um_tree.specs.ValueTree.{input_tree, input_trees, inputs_in_order}
use Rattle.um_tree.specs.declared.value.Input.{the_lemmas}
use Rattle.um_scale.proofs.RescaledInputs.{rescaled_inputs-in_order}
use Rattle.um_scale.proofs.input.+rescaled_input.Goals as goal

pub rescaled_inputs-returns : goal.rescaled_inputs-returns
rescaled_inputs-returns t c =
    let items = c.deref.result.now in
    let seen : input_trees c.args.inputs.now ≡ inputs_in_order (map input_tree items) = search (rules, the_lemmas) in
    rw (seen, rescaled_inputs-in_order c.args.scales.now input_tree items) (search (rules, the_lemmas))

use Rattle.std.proofs.Common.{◌≡◌, map, rules}
use Rattle.um_tree.specs.ValueTree.{inputs_in_order, input_tree, input_trees}
use Rattle.um_tree.specs.declared.value.Input.{the_lemmas}
use Rattle.um_tree.specs.declared.value.Value.{the_lemmas as value_lemmas}
use Rattle.um_tree.proofs.InputTrees.{without_units_each-in_order}
use Rattle.um_tree.proofs.value.+value_of.Goals as goal

pub values_of-returns : goal.values_of-returns
values_of-returns t c =
    let inputs = c.args.inputs.now.items.items in
    let seen : input_trees c.args.inputs.now ≡ inputs_in_order (map input_tree inputs) = search (rules, the_lemmas) in
    rw (seen, without_units_each-in_order input_tree inputs) (search (rules, value_lemmas))

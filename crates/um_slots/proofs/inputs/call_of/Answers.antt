use Rattle.std.proofs.Common.{map, ap, ◌∙◌}
use Rattle.um_tree.specs.TypeTree.{shape_tree}
use Rattle.um_tree.specs.ExprTree.{call}
use Rattle.um_tree.specs.ValueTree.{input_trees}
use Rattle.um_tree.specs.ProgramTree.{record_tree}
use Rattle.um_slots.specs.CallFunction.{input_texts}
use Rattle.um_slots.proofs.inputs.call_of.Goals as goal

pub returns : goal.returns
returns c =
    let records = map record_tree c.args.records.now in
    let inputs = input_trees c.args.inputs.now in
    let shapes = ap (map shape_tree) c.deref.ensures.value ∙ c.in_ok-shapes.ensures in
    c.call_on.ensures ∙ ap (call 0 c.args.f) (c.in_ok-items.ensures ∙ ap (λ ss. input_texts records ss inputs) shapes)

use Rattle.std.proofs.Common.{[], ◌∷◌, map, ap, ◌∙◌}
use Rattle.std.proofs.lemmas.List.{map-append}
use Rattle.um_tree.specs.ValueTree.{input_tree}
use Rattle.um_run.proofs.argument.add_argument.Goals as goal

pub returns-in_ok-push-in-Ok : goal.returns-in_ok-push-in-Ok
returns-in_ok-push-in-Ok c =
    (input_tree c.in-Ok.input, c.in-Ok.ensures.exact, ap (map input_tree) c.in_ok-push-in-Ok.ensures.items ∙ map-append input_tree c.args.inputs.now.items (c.in-Ok.input ∷ []))

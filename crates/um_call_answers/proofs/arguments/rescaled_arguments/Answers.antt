use Rattle.std.proofs.Common.{◌≡◌, ◌∷◌, ◌++◌, [], map, take, Some, slice_get, sym, ap, ◌∙◌}
use Rattle.std.proofs.lemmas.List.{map-append}
use Rattle.um_tree.specs.ValueTree.{input_tree}
use Rattle.um_scale.specs.RescaledInputs.{rescaled_input}
use Rattle.um_call_answers.proofs.TwinArguments.{shown, behind, fit_more, one_misfit}
use Rattle.um_call_answers.proofs.arguments.rescaled_arguments.Goals as goal

pub loop-k-preserved : goal.loop-k-preserved
loop-k-preserved c =
    let cs = c.args.scales.now in let k = c.loop-k.k in let xs = map input_tree c.args.inputs.now in let x = c.index-inputs-k.result in
    let there : slice_get xs k ≡ Some (input_tree x) = shown input_tree c.args.inputs.now k x c.loop-k-test.true c.index-inputs-k.is in
    let more = behind xs k (input_tree x) there in (
      fit_more cs xs k (input_tree x) more c.loop-k.invariant.0 c.in-Ok.ensures.0,
      c.in-Ok.ensures.1 ∙ ap (λ ys. ys ++ rescaled_input cs (input_tree x) ∷ []) c.loop-k.invariant.1
          ∙ sym (ap (map (rescaled_input cs)) more ∙ map-append (rescaled_input cs) (take k xs) (input_tree x ∷ [])),
    )

pub returns-in-Err : goal.returns-in-Err
returns-in-Err c =
    let cs = c.args.scales.now in let k = c.loop-k.k in let xs = map input_tree c.args.inputs.now in let x = c.index-inputs-k.result in
    let there : slice_get xs k ≡ Some (input_tree x) = shown input_tree c.args.inputs.now k x c.loop-k-test.true c.index-inputs-k.is in
    one_misfit cs xs k (input_tree x) (map input_tree c.loop-k.items.items) (map input_tree c.add_rescaled.new.items.items) c.in-Err.stop there c.loop-k.invariant.0 c.in-Err.ensures

use Rattle.std.proofs.Common.{sym, subst}
use Rattle.um_tree.specs.Formed.{IsFormedInput}
use Rattle.um_tree.specs.ValueTree.{input_tree}
use Rattle.um_scaling.specs.RescaledInput.{RescaledInput}
use Rattle.um_scale.specs.Sizes.{sizes}
use Rattle.um_scale.proofs.RescaledInputs.{input_rescaled, input_formed}
use Rattle.um_scale.proofs.input.rescale_input.Goals as goal

pub returns-clause-rescaled : goal.returns-clause-rescaled
returns-clause-rescaled c =
    let cs = c.args.scales.now in
    let i = input_tree c.args.input.now in
    subst (RescaledInput (sizes cs) i) (sym c.in_ok-rescaled_input.ensures) (input_rescaled cs c.len-bases.ensures.positive i c.in_ok-_numbers.ensures.0)

pub returns-clause-formed : goal.returns-clause-formed
returns-clause-formed c = λ bases formed.
    subst (IsFormedInput bases) (sym c.in_ok-rescaled_input.ensures) (input_formed c.args.scales.now bases (input_tree c.args.input.now) formed)

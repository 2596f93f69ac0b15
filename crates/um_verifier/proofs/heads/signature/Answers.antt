use Rattle.std.proofs.Common.{◌∙◌}
use Rattle.um_verifier.proofs.FunctionHeads.{low_params, params_on_stack}
use Rattle.um_verifier.proofs.heads.signature.Goals as goal

pub param_shapes-requires : goal.param_shapes-requires
param_shapes-requires c = rw c.deref.ensures.value (record { low = low_params c.args.head.now c.requires.plain })

pub returns : goal.returns
returns c =
    let params = c.in_ok-params.ensures ∙ params_on_stack c.deref.result.now c.args.head.now.params.items.items c.deref.ensures.value in
    let result = c.of_shape-result.ensures.shape in
    (λ i. record { params = params i; result = result i })

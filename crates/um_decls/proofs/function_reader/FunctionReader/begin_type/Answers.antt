use Rattle.std.proofs.Common.{ap, ◌∙◌}
use Rattle.um_decls.specs.DeclViews.{start_in, read_params, param_state}
use Rattle.um_decls.proofs.function_reader.FunctionReader.begin_type.Goals as goal

pub returns : goal.returns
returns c =
    let old = c.args.self.now in
    c.set.ensures ∙ ap (λ s. param_state (start_in old) (read_params old) s old.body c.args.expected) c.restart.ensures.start

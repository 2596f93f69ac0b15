use Rattle.std.proofs.Common.{◌≡◌, subst}
use Rattle.um_types.specs.TypeView.{type_state}
use Rattle.um_decls.specs.DeclViews.{start_in, read_params, param_state}
use Rattle.um_decls.specs.DeclTakes.{IsLow}
use Rattle.um_decls.specs.declared.function_reader.FunctionExpected.{FunctionExpected}
use Rattle.um_decls.specs.declared.function_reader.FunctionExpected.TheVariants as function
use Rattle.um_decls.proofs.function_reader.FunctionReader.take_own.Goals as goal

pub end_param-requires-clause-low : goal.end_param-requires-clause-low
end_param-requires-clause-low c =
    let old = c.args.self.now in
    let is : old.expected ≡ function.Param c.in-Param.binder = cc in
    subst (λ (e : FunctionExpected). IsLow (param_state (start_in old) (read_params old) (type_state old.ty) old.body e)) is c.requires.low

pub end_result-requires-clause-low : goal.end_result-requires-clause-low
end_result-requires-clause-low c =
    let old = c.args.self.now in
    let is : old.expected ≡ function.Result = cc in
    subst (λ (e : FunctionExpected). IsLow (param_state (start_in old) (read_params old) (type_state old.ty) old.body e)) is c.requires.low

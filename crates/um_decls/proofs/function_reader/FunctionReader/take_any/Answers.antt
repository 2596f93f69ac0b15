use Rattle.std.proofs.Common.{◌≤◌, sym, subst, arith}
use Rattle.um_unit_texts.specs.UnitStops.{greatest_height}
use Rattle.um_types.specs.TypeView.{type_state}
use Rattle.um_decls.specs.DeclLeast.{decl_least}
use Rattle.um_decls.specs.DeclViews.{start_in, read_params, param_state}
use Rattle.um_decls.specs.DeclTakes.{IsLow}
use Rattle.um_decls.specs.declared.function_reader.FunctionExpected.{FunctionExpected}
use Rattle.um_decls.proofs.DeclTokens.{type_low}
use Rattle.um_decls.proofs.function_reader.FunctionReader.take_any.Goals as goal

pub take_own-requires : goal.take_own-requires
take_own-requires c =
    let old = c.args.self.now in
    let s = start_in old in
    let ps = read_params old in
    let mid = type_state c.take_in_type.new.ty in
    let low = subst (λ (e : FunctionExpected). decl_least (param_state s ps (type_state old.ty) old.body e) ≤ greatest_height) c.in-Param.is c.requires.low in
    record {
      low = subst (λ (e : FunctionExpected). IsLow (param_state s ps mid old.body e)) (sym c.in-Param.is) (type_low (type_state old.ty) mid c.args.token.now (omega (arith, low)) (rw c.in-Stops.is at c.in_ok-take_in_type-in-Param.ensures.taken));
    }

pub take_own-requires-in-Stops-2 : goal.take_own-requires-in-Stops-2
take_own-requires-in-Stops-2 c =
    let old = c.args.self.now in
    let s = start_in old in
    let ps = read_params old in
    let mid = type_state c.take_in_type-in-Result.new.ty in
    let low = subst (λ (e : FunctionExpected). decl_least (param_state s ps (type_state old.ty) old.body e) ≤ greatest_height) c.in-Result.is c.requires.low in
    record {
      low = subst (λ (e : FunctionExpected). IsLow (param_state s ps mid old.body e)) (sym c.in-Result.is) (type_low (type_state old.ty) mid c.args.token.now (omega (arith, low)) (rw c.in-Stops-2.is at c.in_ok-take_in_type-in-Result.ensures.taken));
    }

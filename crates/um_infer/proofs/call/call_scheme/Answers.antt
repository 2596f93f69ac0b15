use Rattle.std.proofs.Common.{length, refl, arith}
use Rattle.std.proofs.lemmas.Result.{err_from_is_err_and}
use Rattle.um_tree.specs.ProgramTree.{program_tree}
use Rattle.um_tree.specs.ValueTree.{input_trees}
use Rattle.um_slots.specs.CallFunction.{call_function}
use Rattle.um_rows.proofs.Solved.{rows_hold_slots, types_hold_slots}
use Rattle.um_infer.specs.Answers.{scheme_trees}
use Rattle.um_infer.proofs.SchemeLists.{item_at}
use Rattle.um_infer.proofs.CallTypes.{have_all}
use Rattle.um_infer.proofs.Judged.{stopped, few_slots, rows_below, types_below, solved_is_judged, own_variables_alone}
use Rattle.um_infer.proofs.call.call_scheme.Goals as goal

pub call_rows-requires-clause-schemes : goal.call_rows-requires-clause-schemes
call_rows-requires-clause-schemes c =
    let p = program_tree c.args.shaped.now in let schemes = scheme_trees c.args.schemes.now in
    own_variables_alone p schemes (length p.functions) (have_all p c.requires.formed schemes c.requires.inferred)

pub formed_scheme-requires-clause-few : goal.formed_scheme-requires-clause-few
formed_scheme-requires-clause-few c =
    let p = program_tree c.args.shaped.now in let schemes = scheme_trees c.args.schemes.now in
    let w = item_at p.functions c.args.f c.requires.function in
    few_slots (length p.bases) p.records schemes (length p.functions) (call_function p.records c.args.f w.0 (input_trees c.args.args.now)) c.in_ok-equations.equations (c.in_ok-equations.ensures.equations w.0 w.1)

pub formed_scheme-requires-clause-rows : goal.formed_scheme-requires-clause-rows
formed_scheme-requires-clause-rows c =
    let p = program_tree c.args.shaped.now in let schemes = scheme_trees c.args.schemes.now in
    let w = item_at p.functions c.args.f c.requires.function in
    let call = call_function p.records c.args.f w.0 (input_trees c.args.args.now) in
    rows_below (length p.bases) p.records schemes (length p.functions) call c.in_ok-equations.equations (c.in_ok-equations.ensures.equations w.0 w.1) (rows_hold_slots p schemes (length p.functions) call (have_all p c.requires.formed schemes c.requires.inferred))

pub formed_scheme-requires-clause-types : goal.formed_scheme-requires-clause-types
formed_scheme-requires-clause-types c =
    let p = program_tree c.args.shaped.now in let schemes = scheme_trees c.args.schemes.now in
    let w = item_at p.functions c.args.f c.requires.function in
    let call = call_function p.records c.args.f w.0 (input_trees c.args.args.now) in
    types_below (length p.bases) p.records schemes (length p.functions) call c.in_ok-equations.equations (c.in_ok-equations.ensures.equations w.0 w.1) (types_hold_slots p schemes (length p.functions) call (have_all p c.requires.formed schemes c.requires.inferred))

pub formed_scheme-requires-clause-bases : goal.formed_scheme-requires-clause-bases
formed_scheme-requires-clause-bases c = let few = c.base_count.ensures.few in omega (arith, few)

pub returns : goal.returns
returns c = λ f declared.
    let p = program_tree c.args.shaped.now in let schemes = scheme_trees c.args.schemes.now in
    solved_is_judged (length p.bases) p.records schemes (length p.functions) (call_function p.records c.args.f f (input_trees c.args.args.now)) c.in_ok-equations.equations (c.in_ok-equations.ensures.equations f declared) c.base_count.result 0 0 c.formed_scheme.result c.base_count.ensures.count refl refl c.formed_scheme.ensures

pub returns-in_err-equations : goal.returns-in_err-equations
returns-in_err-equations c = λ f declared.
    let p = program_tree c.args.shaped.now in let schemes = scheme_trees c.args.schemes.now in
    let q = err_from_is_err_and c.from_residual.result c.from_residual.ensures.1 in
    rw (q.1, q.2) (stopped (length p.bases) p.records schemes (length p.functions) (call_function p.records c.args.f f (input_trees c.args.args.now)) c.in_err-equations.field-0.0 (c.in_err-equations.ensures.stops f declared))

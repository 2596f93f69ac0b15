use Rattle.std.proofs.Common.{length, arith}
use Rattle.std.proofs.lemmas.Result.{err_from_is_err_and}
use Rattle.um_tree.specs.ProgramTree.{program_tree}
use Rattle.um_infer.specs.Answers.{scheme_trees}
use Rattle.um_infer.proofs.SchemeLists.{item_at}
use Rattle.um_infer.proofs.Judged.{stopped, few_slots, rows_below, types_below, parameters_within, own_variables_alone}
use Rattle.um_infer.proofs.SolvedFunctions.{answered}
use Rattle.um_rows.proofs.Solved.{rows_hold_slots, types_hold_slots}
use Rattle.um_infer.proofs.solved.solved_scheme.Goals as goal

pub typed_rows-requires-clause-schemes : goal.typed_rows-requires-clause-schemes
typed_rows-requires-clause-schemes c = own_variables_alone (program_tree c.args.shaped.now) (scheme_trees c.args.schemes.now) c.args.i c.requires.before

pub scheme_of_rows-requires-clause-few : goal.scheme_of_rows-requires-clause-few
scheme_of_rows-requires-clause-few c =
    let p = program_tree c.args.shaped.now in let schemes = scheme_trees c.args.schemes.now in
    let w = item_at p.functions c.args.i c.requires.declared in
    few_slots (length p.bases) p.records schemes c.args.i w.0 c.in_ok-typed.typed.rows (c.in_ok-typed.ensures.equations w.0 w.1)

pub scheme_of_rows-requires-clause-rows : goal.scheme_of_rows-requires-clause-rows
scheme_of_rows-requires-clause-rows c =
    let p = program_tree c.args.shaped.now in let schemes = scheme_trees c.args.schemes.now in
    let w = item_at p.functions c.args.i c.requires.declared in
    rows_below (length p.bases) p.records schemes c.args.i w.0 c.in_ok-typed.typed.rows (c.in_ok-typed.ensures.equations w.0 w.1) (rows_hold_slots p schemes c.args.i w.0 c.requires.before)

pub scheme_of_rows-requires-clause-types : goal.scheme_of_rows-requires-clause-types
scheme_of_rows-requires-clause-types c =
    let p = program_tree c.args.shaped.now in let schemes = scheme_trees c.args.schemes.now in
    let w = item_at p.functions c.args.i c.requires.declared in
    types_below (length p.bases) p.records schemes c.args.i w.0 c.in_ok-typed.typed.rows (c.in_ok-typed.ensures.equations w.0 w.1) (types_hold_slots p schemes c.args.i w.0 c.requires.before)

pub scheme_of_rows-requires-clause-parameters : goal.scheme_of_rows-requires-clause-parameters
scheme_of_rows-requires-clause-parameters c =
    let p = program_tree c.args.shaped.now in let schemes = scheme_trees c.args.schemes.now in
    let w = item_at p.functions c.args.i c.requires.declared in
    parameters_within (length p.bases) p.records schemes c.args.i w.0 c.in_ok-typed.typed.rows (c.in_ok-typed.ensures.equations w.0 w.1) c.head_of-parameters.result.0 (c.head_of-parameters.ensures w.0 w.1).0

pub scheme_of_rows-requires-clause-bases : goal.scheme_of_rows-requires-clause-bases
scheme_of_rows-requires-clause-bases c =
    let p = program_tree c.args.shaped.now in let schemes = scheme_trees c.args.schemes.now in
    let w = item_at p.functions c.args.i c.requires.declared in
    let within = parameters_within (length p.bases) p.records schemes c.args.i w.0 c.in_ok-typed.typed.rows (c.in_ok-typed.ensures.equations w.0 w.1) c.head_of-parameters.result.0 (c.head_of-parameters.ensures w.0 w.1).0 in
    let slots = few_slots (length p.bases) p.records schemes c.args.i w.0 c.in_ok-typed.typed.rows (c.in_ok-typed.ensures.equations w.0 w.1) in
    let few = c.base_count.ensures.few in
    omega (arith, few, within, slots)

pub returns : goal.returns
returns c =
    let p = program_tree c.args.shaped.now in let schemes = scheme_trees c.args.schemes.now in
    let w = item_at p.functions c.args.i c.requires.declared in
    answered p schemes c.args.i c.in_ok-typed.typed (λ f declared. c.in_ok-typed.ensures.equations f declared) (λ f declared. c.in_ok-typed.ensures.nodes f declared) c.base_count.result c.head_of-parameters.result.0 c.head_of-parameters.result.1
    c.base_count.ensures.count (λ f declared. c.head_of-parameters.ensures f declared) c.scheme_of_rows.result c.scheme_of_rows.ensures

pub returns-in_err-typed : goal.returns-in_err-typed
returns-in_err-typed c =
    let p = program_tree c.args.shaped.now in let schemes = scheme_trees c.args.schemes.now in
    let q = err_from_is_err_and c.from_residual.result c.from_residual.ensures.1 in
    rw (q.1, q.2) (λ f declared. stopped (length p.bases) p.records schemes c.args.i f c.in_err-typed.field-0.0 (c.in_err-typed.ensures.stops f declared))

use Rattle.std.proofs.Common.{◌+◌, ◌<◌, subst, sym, arith}
use Rattle.std.specs.Prelude.{All}
use Rattle.std.proofs.lemmas.List.Elements.{All-weaker}
use Rattle.std.proofs.lemmas.Result.{err_from_is_err_and}
use Rattle.um_tree.specs.TypeTree.{type_trees}
use Rattle.um_tree.specs.ProgramTree.{scheme_tree}
use Rattle.um_tree.specs.Scheme.{signature_types, variables}
use Rattle.um_rows.specs.Answers.{rows_signature}
use Rattle.um_infer.proofs.FormingSteps.{puts_below, formed_is_judged, past_is_judged}
use Rattle.um_infer.proofs.GeneralSteps.{types_stay}
use Rattle.um_infer.proofs.forming.scheme_by.Goals as goal

pub general_types-requires-clause-variables : goal.general_types-requires-clause-variables
general_types-requires-clause-variables c =
    let n = c.args.rows.now.slots in
    let s = c.requires.solved in
    let ts = signature_types (rows_signature c.args.rows.now) in
    let low = puts_below n c.args.solver.now.units s.below ts (subst (λ m. All (λ k. k < m) (variables ts)) (sym s.count) c.requires.types) in
    subst (λ us. All (λ k. k < n) (variables us)) (sym c.in_ok-types.ensures.solved) low

pub numbered_scheme-requires-clause-variables : goal.numbered_scheme-requires-clause-variables
numbered_scheme-requires-clause-variables c =
    let n = c.args.rows.now.slots in
    let few : n + c.args.parameters < 4294967295 = (let most = c.requires.few in let parameters = c.requires.parameters in omega (arith, most, parameters)) in
    let s = c.requires.solved in
    let ts = signature_types (rows_signature c.args.rows.now) in
    let low = puts_below n c.args.solver.now.units s.below ts (subst (λ m. All (λ k. k < m) (variables ts)) (sym s.count) c.requires.types) in
    let here = subst (λ us. All (λ k. k < n) (variables us)) (sym c.in_ok-types.ensures.solved) low in
    let stays = types_stay c.args.bases c.args.parameters n (type_trees c.in_ok-types.types) here in
    All-weaker (λ k. k < n + c.args.parameters) (λ k. k < 4294967295) (λ k h. omega (arith, h, few)) (variables (type_trees c.in_ok-general.general))
    (subst (λ us. All (λ k. k < n + c.args.parameters) (variables us)) (sym c.in_ok-general.ensures) stays)

pub returns-in_err-types : goal.returns-in_err-types
returns-in_err-types c =
    let n = c.args.rows.now.slots in
    let p = err_from_is_err_and c.from_residual.result c.from_residual.ensures.1 in
    rw (p.1, p.2) (past_is_judged c.args.bases c.args.parameters n c.args.at (rows_signature c.args.rows.now) c.args.rows.now.list.items.items c.args.solver.now.units c.requires.solved.solves c.in_err-types.field-0.0 c.in_err-types.ensures.range)

pub returns : goal.returns
returns c =
    let n = c.args.rows.now.slots in
    let rows = c.args.rows.now.list.items.items in
    formed_is_judged c.args.bases c.args.parameters n c.args.at (rows_signature c.args.rows.now) rows c.args.solver.now.units c.requires.solved.solves (type_trees c.in_ok-types.types) (type_trees c.in_ok-general.general) (scheme_tree c.in_ok-numbered_scheme.field-0)
    c.in_ok-types.ensures.solved c.in_ok-types.ensures.range c.in_ok-general.ensures c.in_ok-numbered_scheme.ensures.types c.in_ok-numbered_scheme.ensures.vars

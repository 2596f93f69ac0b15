use Rattle.std.proofs.Common.{subst}
use Rattle.std.proofs.lemmas.Result.{err_from_is_err_and}
use Rattle.um_elim.specs.Solution.{rigid_units}
use Rattle.um_rows.specs.Answers.{rows_signature}
use Rattle.um_rows.specs.Judgement.{by_rows}
use Rattle.um_solving.specs.Solving.{IsSolutionOf, IsRefusal}
use Rattle.um_infer.proofs.forming.formed_scheme.Goals as goal

pub rigid_solver-requires-clause-variables : goal.rigid_solver-requires-clause-variables
rigid_solver-requires-clause-variables c = rw c.deref.ensures.value c.requires.rows

pub scheme_by-requires-clause-solved : goal.scheme_by-requires-clause-solved
scheme_by-requires-clause-solved c =
    let n = c.args.rows.now.slots in
    subst (λ rs. IsSolutionOf n (rigid_units c.args.bases c.args.parameters n) rs c.in_ok-solver.solver) c.deref.ensures.value c.in_ok-solver.ensures

pub returns-in_err-solver : goal.returns-in_err-solver
returns-in_err-solver c =
    let sig = rows_signature c.args.rows.now in
    let p = err_from_is_err_and c.from_residual.result c.from_residual.ensures.1 in
    rw (p.1, p.2) (subst (λ rs. IsRefusal (by_rows c.args.bases c.args.parameters c.args.rows.now.slots c.args.at sig rs) c.in_err-solver.field-0.0) c.deref.ensures.value (c.in_err-solver.ensures c.args.at sig))

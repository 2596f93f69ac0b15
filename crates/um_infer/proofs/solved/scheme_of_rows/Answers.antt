use Rattle.std.proofs.Common.{subst}
use Rattle.um_elim.specs.Solution.{rigid_units}
use Rattle.um_rows.specs.Answers.{rows_signature}
use Rattle.um_rows.specs.Judgement.{by_rows}
use Rattle.um_solving.specs.Solving.{IsSolutionOf, IsRefusal}
use Rattle.um_infer.proofs.solved.scheme_of_rows.Goals as goal

pub rigid_solver-requires-clause-variables : goal.rigid_solver-requires-clause-variables
rigid_solver-requires-clause-variables c = rw c.deref.ensures.value c.requires.rows

pub with_scheme-requires-clause-solved : goal.with_scheme-requires-clause-solved
with_scheme-requires-clause-solved c =
    let n = c.args.typed.rows.slots in
    subst (λ rs. IsSolutionOf n (rigid_units c.args.head.bases c.args.head.parameters n) rs c.in-Ok.solver) c.deref.ensures.value c.in-Ok.ensures

pub returns-in-Err : goal.returns-in-Err
returns-in-Err c =
    let sig = rows_signature c.args.typed.rows in
    subst (λ rs. IsRefusal (by_rows c.args.head.bases c.args.head.parameters c.args.typed.rows.slots c.args.head.at sig rs) c.in-Err.refusal) c.deref.ensures.value (c.in-Err.ensures c.args.head.at sig)

use Rattle.std.proofs.Common.{suc, sym, subst}
use Rattle.std.specs.Prelude.{All}
use Rattle.std.proofs.lemmas.List.Elements.{All-take}
use Rattle.um_units.specs.Variables.{VariablesBelow}
use Rattle.um_elim.specs.Solution.{own_variables}
use Rattle.um_equal_types.specs.declared.row.Row.{Row}
use Rattle.um_rows.specs.FirstUnsolvable.{solve}
use Rattle.um_rows.specs.Judgement.{by_slots}
use Rattle.um_solving.specs.Solving.{IsRefusal}
use Rattle.um_solving.proofs.SolvingSteps.{refused_for_row}
use Rattle.um_solving.proofs.solving.rigid_solver.Goals as goal

pub row_refusal-requires-clause-variables : goal.row_refusal-requires-clause-variables
row_refusal-requires-clause-variables c =
    let low = λ (row : Row). VariablesBelow c.args.slots row.unit in
    subst (All low) (sym c.up_to.ensures) (All-take low (suc c.in-Err-NoSolution.row) c.args.rows.now c.requires.variables)

pub returns-in-Err-NoSolution : goal.returns-in-Err-NoSolution
returns-in-Err-NoSolution c =
    let slots = c.args.slots in
    let k = c.in-Err-NoSolution.row in
    let at = c.in-Err-NoSolution.at in
    let r = c.row_refusal.result in
    let here = subst (λ rs. IsRefusal (by_slots k at (solve 0 rs (own_variables slots))) r) c.up_to.ensures (c.row_refusal.ensures k) in
    refused_for_row c.args.bases c.args.parameters slots c.args.rows.now r k at (rw c.in-Err-NoSolution.field-0-is at c.in-Err-NoSolution.ensures) here

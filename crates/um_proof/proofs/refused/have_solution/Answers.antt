use Rattle.std.proofs.Common.{length, sym, ap, ◌∙◌, subst}
use Rattle.std.specs.Prelude.{All}
use Rattle.um_units.specs.Variables.{VariablesBelow}
use Rattle.um_elim.specs.Solution.{Solution}
use Rattle.um_elim.proofs.Slots.{length-own}
use Rattle.um_equal_types.specs.declared.row.Row.{Row}
use Rattle.um_proof.proofs.refused.have_solution.Goals as goal

pub add_rows-found-requires-clause-rows : goal.add_rows-found-requires-clause-rows
add_rows-found-requires-clause-rows c =
    let long = ap (λ (s : Solution). length s.units) c.in_ok-solver.ensures.fresh ∙ length-own c.args.slots in
    subst (λ n. All (λ (row : Row). VariablesBelow n row.unit) c.args.rows.now) (sym long) c.requires.rows

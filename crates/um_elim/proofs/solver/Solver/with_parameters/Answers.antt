use Rattle.std.proofs.Common.{sym, subst}
use Rattle.std.specs.Prelude.{All}
use Rattle.um_units.specs.Variables.{VariablesBelow}
use Rattle.um_elim.specs.Instances.{SolvesExactly}
use Rattle.um_elim.specs.Solution.{parameter_rows}
use Rattle.um_elim.proofs.Slots.{rigid_is_general}
use Rattle.um_elim.proofs.VariablesKept.{all_rigid_below}
use Rattle.um_elim.proofs.FirstIndex.{first_is_index}
use Rattle.um_elim.proofs.solver.Solver.with_parameters.Goals as goal

pub returns-clause-rows : goal.returns-clause-rows
returns-clause-rows c = subst (SolvesExactly c.args.slots (parameter_rows c.args.bases c.args.parameters)) (sym c.in_ok-units.ensures) (rigid_is_general c.args.bases c.args.parameters c.args.slots c.requires.parameters)

pub returns-clause-variables : goal.returns-clause-variables
returns-clause-variables c = subst (All (VariablesBelow c.args.slots)) (sym c.in_ok-units.ensures) (all_rigid_below c.args.bases c.args.parameters c.args.slots)

pub invariant_of-result : goal.invariant_of-result
invariant_of-result c = λ _. rw (c.in_ok-units.ensures, c.in_ok-index.ensures) (first_is_index c.args.bases c.args.parameters c.args.slots c.requires.parameters)

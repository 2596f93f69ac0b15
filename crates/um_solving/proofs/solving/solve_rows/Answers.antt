use Rattle.std.proofs.Common.{◌<◌, length, arith}
use Rattle.um_elim.specs.Solution.{rigid_units}
use Rattle.um_solving.proofs.SolvingSteps.{none_solved, row_solved, row_refused}
use Rattle.um_solving.proofs.solving.solve_rows.Goals as goal

pub loop-i-init : goal.loop-i-init
loop-i-init c = none_solved c.args.bases c.args.parameters c.args.slots c.args.rows.now c.in_ok-solver.solver c.in_ok-solver.ensures.rigid c.in_ok-solver.ensures.variables

pub loop-i-preserved : goal.loop-i-preserved
loop-i-preserved c =
    let start = rigid_units c.args.bases c.args.parameters c.args.slots in
    let below : c.loop-i.i < length c.args.rows.now = omega (arith, c.loop-i-test.true) in
    row_solved c.args.slots start c.args.rows.now c.loop-i.i c.index-rows-i.result c.loop-i.solver c.add_row.new.solver below c.index-rows-i.is c.loop-i.invariant c.in-Ok.ensures.added.0 c.in-Ok.ensures.added.1 c.in-Ok.ensures.slots c.in-Ok.ensures.variables

pub returns-in-Err : goal.returns-in-Err
returns-in-Err c =
    let start = rigid_units c.args.bases c.args.parameters c.args.slots in
    let below : c.loop-i.i < length c.args.rows.now = omega (arith, c.loop-i-test.true) in
    row_refused c.args.slots start c.args.rows.now c.loop-i.i c.index-rows-i.result c.loop-i.solver c.in-Err.stop below c.index-rows-i.is c.loop-i.invariant c.in-Err.ensures.added

use Rattle.std.proofs.Common.{length, arith}
use Rattle.um_unit_reasons.proofs.RowSteps.{none_solved, joined, refused, never, row_below}
use Rattle.um_unit_reasons.proofs.rows.first_unsolvable.Goals as goal

pub loop-k-init : goal.loop-k-init
loop-k-init c = none_solved c.args.bases c.args.parameters c.args.slots c.args.rows.now c.in_ok-solver.solver c.in_ok-solver.ensures.rigid

pub join-requires-clause-variables : goal.join-requires-clause-variables
join-requires-clause-variables c =
    row_below c.args.slots (length c.loop-k.solver.units) c.args.rows.now c.loop-k.k c.index-rows-k.result c.loop-k.invariant.count (omega (arith, c.loop-k-test.true)) c.index-rows-k.is c.requires.variables

pub loop-k-preserved : goal.loop-k-preserved
loop-k-preserved c =
    joined c.args.bases c.args.parameters c.args.slots c.args.rows.now c.loop-k.k c.loop-k.solver (omega (arith, c.loop-k-test.true)) c.loop-k.invariant c.index-rows-k.result c.index-rows-k.is c.join.new.solver c.in_ok-join.field-0 c.if-not-branch.false
    c.in_ok-join.ensures.joined c.join.ensures.slots

pub returns-then-not-branch : goal.returns-then-not-branch
returns-then-not-branch c = λ m at stop.
    refused c.args.bases c.args.parameters c.args.slots c.args.rows.now c.loop-k.k c.loop-k.solver (omega (arith, c.loop-k-test.true)) c.loop-k.invariant c.index-rows-k.result c.index-rows-k.is c.join.new.solver c.in_ok-join.field-0 c.if-not-branch.true
    c.in_ok-join.ensures.joined m at stop

pub unreachable-requires : goal.unreachable-requires
unreachable-requires c =
    let u = c.requires.unsolvable in
    never c.args.bases c.args.parameters c.args.slots c.args.rows.now c.loop-k.k c.loop-k.solver (omega (arith, c.loop-k-test.false)) c.loop-k.invariant u.0 u.1 u.2

use Rattle.std.proofs.Common.{arith, below_more}
use Rattle.um_proof.proofs.ValidYes.{returned_carried, returned_narrow}
use Rattle.um_proof.proofs.yes.all_return.Goals as goal

pub loop-j-preserved : goal.loop-j-preserved
loop-j-preserved c =
    below_more _ _ c.loop-j.invariant
    (returned_narrow c.args.solution.now c.args.back.now c.loop-j.j c.index-solution-j.result c.loop-j-test.true c.index-solution-j.is c.in-Ok.ensures)

pub returns-in-Err : goal.returns-in-Err
returns-in-Err c = returned_carried c.args.solution.now c.args.back.now c.loop-j.j c.index-solution-j.result c.in-Err.stop c.loop-j-test.true c.index-solution-j.is c.in-Err.ensures

pub returns : goal.returns
returns c = λ j l. let past = c.loop-j-test.false in c.loop-j.invariant j (omega (arith, past, l))

use Rattle.std.proofs.Common.{ap}
use Rattle.um_rows.specs.FirstUnsolvable.{solved, unsolved, out_of_range}
use Rattle.um_rows.specs.Judgement.{by_slots}
use Rattle.um_solving.proofs.SolvingSteps.{own_start}
use Rattle.um_solving.proofs.solving.row_refusal.Goals as goal

pub returns-in-Ok : goal.returns-in-Ok
returns-in-Ok c = λ row. (row, ap (by_slots row c.args.at) (own_start c.args.slots c.args.rows.now (solved c.in-Ok.solver.units) c.in-Ok.ensures.solves))

pub returns-in-Err-NoSolution : goal.returns-in-Err-NoSolution
returns-in-Err-NoSolution c = λ row. (row, ap (by_slots row c.args.at) (own_start c.args.slots c.args.rows.now (unsolved c.in-Err-NoSolution.field-0-0 c.in-Err-NoSolution.field-0-1) (rw c.in-Err-NoSolution.field-0-is at c.in-Err-NoSolution.ensures)))

pub returns-in-Err-Range : goal.returns-in-Err-Range
returns-in-Err-Range c = λ row. ap (by_slots row c.args.at) (own_start c.args.slots c.args.rows.now (out_of_range c.in-Err-Range.at) (rw c.in-Err-Range.field-0-is at c.in-Err-Range.ensures))

use Rattle.um_stacks.specs.Stacks.{stack_at}
use Rattle.um_stacks.proofs.Passed.{passed_top}
use Rattle.um_stacks.proofs.stacks.Stacks.step_down.Goals as goal

pub returns-else-height-clause-passed : goal.returns-else-height-clause-passed
returns-else-height-clause-passed c =
    passed_top (stack_at c.args.self.now c.in-Some.node.below) (stack_at c.args.self.now c.args.stack) c.in-Some.node.top c.in-Some.ensures.whole

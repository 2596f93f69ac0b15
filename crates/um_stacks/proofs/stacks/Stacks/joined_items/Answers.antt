use Rattle.um_stacks.specs.Stacks.{stack_at}
use Rattle.um_stacks.proofs.Passed.{passed_both}
use Rattle.um_stacks.proofs.stacks.Stacks.joined_items.Goals as goal

pub loop-step-preserved : goal.loop-step-preserved
loop-step-preserved c = (
  passed_both (stack_at c.args.self.now c.step_down-step.result.to) (stack_at c.args.self.now c.loop-step.low) (stack_at c.args.self.now c.args.stack) c.step_down-step.result.passed c.loop-step.items c.joined-items.result c.step_down-step.ensures.passed c.loop-step.invariant.0 c.joined-items.ensures,
  c.step_down-step.ensures.high,
)

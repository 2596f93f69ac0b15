use Rattle.std.proofs.Common.{ap}
use Rattle.um_verify.specs.StackShape.{join_all}
use Rattle.um_stacks.specs.Stacks.{stack_at, shapes_at}
use Rattle.um_stacks.proofs.JoinedStacks.{onto_join, same_join}
use Rattle.um_stacks.proofs.stacks.Stacks.shared.Goals as goal

pub returns-after-loop-low : goal.returns-after-loop-low
returns-after-loop-low c =
    let s = c.args.self.now in
    onto_join c.loop-low.passed.items (join_all (shapes_at s c.args.one) (shapes_at s c.args.other)) (join_all (shapes_at s c.loop-low.low) (shapes_at s c.loop-low.under)) (shapes_at s c.loop-low.low) c.loop-low.invariant.0 (same_join (stack_at s c.loop-low.low) (stack_at s c.loop-low.under) (ap (stack_at s) c.loop-low-test.false))

use Rattle.std.proofs.Common.{◌≡◌, length}
use Rattle.um_verify.specs.StackShape.{join_all}
use Rattle.um_stacks.specs.Stacks.{stack_at, shapes_at, IsPartOf}
use Rattle.um_stacks.proofs.JoinedStacks.{onto}
use Rattle.um_stacks.proofs.stacks.Stacks.shared.Given as goal

abbrev pub invariant-loop-low : goal.invariant-loop-low
invariant-loop-low l =
    (join_all (shapes_at l.self l.one) (shapes_at l.self l.other) ≡ onto l.passed.items (join_all (shapes_at l.self l.low) (shapes_at l.self l.under))) × (length (stack_at l.self l.low) ≡ length (stack_at l.self l.under)) × ((IsPartOf (stack_at l.self l.low) (stack_at l.self l.one)) × IsPartOf (stack_at l.self l.under) (stack_at l.self l.other))

abbrev pub decreases-loop-low : goal.decreases-loop-low
decreases-loop-low l = length (stack_at l.self l.low)

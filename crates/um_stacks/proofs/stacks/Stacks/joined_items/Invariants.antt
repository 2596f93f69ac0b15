use Rattle.std.proofs.Common.{◌≤◌, length}
use Rattle.um_stacks.specs.Stacks.{stack_at, IsPassed}
use Rattle.um_stacks.proofs.stacks.Stacks.joined_items.Given as goal

abbrev pub invariant-loop-step : goal.invariant-loop-step
invariant-loop-step l = IsPassed (stack_at l.self l.low) (stack_at l.self l.stack) l.items × (l.place ≤ length (stack_at l.self l.low))

abbrev pub decreases-loop-step : goal.decreases-loop-step
decreases-loop-step l = l.low

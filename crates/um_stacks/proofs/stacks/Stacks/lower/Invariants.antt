use Rattle.std.proofs.Common.{◌≡◌, ◌≤◌, take}
use Rattle.um_stacks.specs.Stacks.{stack_at}
use Rattle.um_stacks.proofs.stacks.Stacks.lower.Given as goal

abbrev pub invariant-loop-low : goal.invariant-loop-low
invariant-loop-low l = (take l.height (stack_at l.self l.low) ≡ take l.height (stack_at l.self l.stack)) × (l.low ≤ l.stack)

abbrev pub decreases-loop-low : goal.decreases-loop-low
decreases-loop-low l = l.low

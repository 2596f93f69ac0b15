use Rattle.std.proofs.Common.{◌≡◌}
use Rattle.um_stacks.proofs.stacks.Stacks.keep_clashes.Given as goal

abbrev pub invariant-loop-height : goal.invariant-loop-height
invariant-loop-height l = l.self ≡ l.fn.self

abbrev pub decreases-loop-height : goal.decreases-loop-height
decreases-loop-height l = l.height

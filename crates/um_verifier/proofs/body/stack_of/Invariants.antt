use Rattle.std.proofs.Common.{◌≡◌, ◌<◌, length, take}
use Rattle.um_stacks.specs.Stacks.{stack_at}
use Rattle.um_verifier.proofs.body.stack_of.Given as goal

abbrev pub invariant-loop-i : goal.invariant-loop-i
invariant-loop-i l = (l.stack < length l.stacks) × (stack_at l.stacks l.stack ≡ take l.i l.shapes)

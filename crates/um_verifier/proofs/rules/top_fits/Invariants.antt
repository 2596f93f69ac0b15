use Rattle.std.proofs.Common.{◌≡◌, ◌≤◌, ◌+◌, ◌-◌, length, drop, take}
use Rattle.um_verify.specs.StackShape.{fit_all}
use Rattle.um_stacks.specs.FlatShapes.{flat_shapes}
use Rattle.um_stacks.specs.Stacks.{stack_at}
use Rattle.um_verifier.proofs.rules.top_fits.Given as goal

abbrev pub invariant-loop-i : goal.invariant-loop-i
invariant-loop-i l =
    let xs = stack_at l.stacks l.stack in
    let place = length xs - length l.asked in
    (l.i ≤ length l.asked) × (length (stack_at l.stacks l.low) ≡ place + l.i) × (fit_all (flat_shapes (drop place xs)) (flat_shapes l.asked) ≡ fit_all (flat_shapes (drop place (stack_at l.stacks l.low))) (flat_shapes (take l.i l.asked)))

abbrev pub decreases-loop-i : goal.decreases-loop-i
decreases-loop-i l = l.i

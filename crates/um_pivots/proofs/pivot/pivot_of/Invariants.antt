use Rattle.std.proofs.Common.{◌≡◌, ◌≤◌, length, drop}
use Rattle.um_pivots.specs.Pivot.{pivot_of}
use Rattle.um_pivots.proofs.pivot.pivot_of.Given as goal

abbrev pub invariant-loop-i : goal.invariant-loop-i
invariant-loop-i l = (l.i ≤ length l.terms) × (l.best ≡ pivot_of (drop l.i l.terms))

abbrev pub decreases-loop-i : goal.decreases-loop-i
decreases-loop-i l = l.i

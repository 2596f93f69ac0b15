use Rattle.std.proofs.Common.{◌≤◌, drop, length}
use Rattle.um_units.specs.Range.{IsKept}
use Rattle.um_units.proofs.kept.are_kept.Given as goal

abbrev pub invariant-loop-k : goal.invariant-loop-k
invariant-loop-k l = record {
  within : l.k ≤ length l.terms;
  kept : IsKept (drop l.k l.terms);
}

abbrev pub decreases-loop-k : goal.decreases-loop-k
decreases-loop-k l = l.k

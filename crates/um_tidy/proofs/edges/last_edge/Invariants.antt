use Rattle.std.proofs.Common.{◌≤◌, ◌-◌}
use Rattle.um_tidy.specs.Placed.{NoEdges}
use Rattle.um_tidy.proofs.edges.last_edge.Given as goal

abbrev pub invariant-loop-at : goal.invariant-loop-at
invariant-loop-at l = record {
  after : l.from ≤ l.at;
  within : l.at ≤ l.last;
  inner : NoEdges l.gap l.from l.at;
}

abbrev pub decreases-loop-at : goal.decreases-loop-at
decreases-loop-at l = l.last - l.at

use Rattle.std.proofs.Common.{◌≡◌, ◌≤◌, ◌-◌, ◌*◌, length, drop}
use Rattle.um_tidy.specs.Gaps.{width_from}
use Rattle.um_tidy.proofs.columns.width.Given as goal

abbrev pub invariant-loop-at : goal.invariant-loop-at
invariant-loop-at l = record {
  within : l.at ≤ length l.space;
  narrow : l.width ≤ 4 * l.at;
  so_far : width_from l.width (drop l.at l.space) ≡ width_from 0 l.space;
}

abbrev pub decreases-loop-at : goal.decreases-loop-at
decreases-loop-at l = length l.space - l.at

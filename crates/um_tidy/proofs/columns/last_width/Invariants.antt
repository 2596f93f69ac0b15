use Rattle.std.proofs.Common.{◌≡◌, ◌≤◌, ◌*◌, drop}
use Rattle.um_tidy.specs.Gaps.{width_from}
use Rattle.um_tidy.proofs.columns.last_width.Given as goal

abbrev pub invariant-loop-i : goal.invariant-loop-i
invariant-loop-i l = record {
  narrow : l.width ≤ 4 * l.i;
  so_far : width_from l.width (drop l.i l.space) ≡ width_from l.column (drop l.from l.space);
}

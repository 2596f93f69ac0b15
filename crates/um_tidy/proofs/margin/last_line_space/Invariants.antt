use Rattle.std.proofs.Common.{◌≡◌, ◌≤◌, ◌<◌, ◌-◌, ◌*◌, ℕ, true, length, get_or}
use Rattle.std.specs.Prelude.{slice_range}
use Rattle.um_tidy.specs.Gaps.{width_from}
use Rattle.um_tidy.specs.Placed.{is_line_space}
use Rattle.um_tidy.proofs.margin.last_line_space.Given as goal

abbrev pub invariant-loop-width : goal.invariant-loop-width
invariant-loop-width l = record {
  after : l.from ≤ l.end;
  within : l.end ≤ length l.gap;
  narrow : l.width ≤ 4 * l.end;
  space : (k : ℕ) → l.from ≤ k → k < l.end → is_line_space (get_or l.gap k 0) ≡ true;
  width : l.width ≡ width_from l.column (slice_range l.gap l.from l.end);
}

abbrev pub decreases-loop-width : goal.decreases-loop-width
decreases-loop-width l = length l.gap - l.end

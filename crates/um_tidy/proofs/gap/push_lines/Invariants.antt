use Rattle.std.proofs.Common.{◌≡◌, ◌≤◌, ◌+◌, ◌++◌, List, ℕ, length, drop}
use Rattle.std.specs.List.{prefix_len}
use Rattle.um_syntax.specs.Gap.{is_space}
use Rattle.um_tidy.specs.declared.gap.Above.{Above}
use Rattle.um_tidy.specs.Gaps.{in_line, lines, each_line}
use Rattle.um_tidy.proofs.gap.push_lines.Given as goal

abbrev pub invariant-lines : goal.invariant-lines
invariant-lines l = record {
  size : length l.line.rest.now ≤ length l.gap;
  within : l.line.margin ≤ length l.line.rest.now;
  margin : l.line.margin ≡ prefix_len is_space l.line.rest.now;
  line : prefix_len in_line l.line.rest.now ≡ l.line.margin + prefix_len in_line (drop l.line.margin l.line.rest.now);
  added : (last : Above → List ℕ → List ℕ)
      → l.text.items ++ each_line last l.line.above (lines l.line.rest.now) ≡ l.fn.text.items ++ each_line last l.fn.above (lines l.gap);
}

abbrev pub decreases-lines : goal.decreases-lines
decreases-lines l = length l.line.rest.now

use Rattle.std.proofs.Common.{◌-◌, length}
use Rattle.um_tidy.specs.Placed.{IsLineStart}
use Rattle.um_tidy.proofs.margin.margin_at.Given as goal

abbrev pub invariant-lines : goal.invariant-lines
invariant-lines l = IsLineStart l.gap l.from l.line

abbrev pub decreases-lines : goal.decreases-lines
decreases-lines l = length l.gap - l.line

use Rattle.std.proofs.Common.{◌≡◌, ◌≤◌, ◌-◌, ◌*◌, length}
use Rattle.um_tidy.specs.Placed.{IsLineMargin}
use Rattle.um_tidy.proofs.margin.far_margin.Given as goal

abbrev pub invariant-parts : goal.invariant-parts
invariant-parts l = record {
  line : l.margin.line ≡ l.initial.margin.line;
  wide : l.margin.width ≤ 4 * l.margin.end;
  others : l.margin.others ≤ 65536 * l.margin.end;
  margin : IsLineMargin l.gap l.margin;
}

abbrev pub decreases-parts : goal.decreases-parts
decreases-parts l = length l.gap - l.margin.end

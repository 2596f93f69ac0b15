use Rattle.std.proofs.Common.{◌≡◌, length, eqb}
use Rattle.um_excerpt.specs.SourceLine.{line_before}
use Rattle.um_excerpt.proofs.line.line_before.Given as goal

abbrev pub invariant-loop-c : goal.invariant-loop-c
invariant-loop-c l = record {
  line : l.line.items ≡ line_before l.yielded;
  first : l.first ≡ eqb (length l.yielded) 0;
}

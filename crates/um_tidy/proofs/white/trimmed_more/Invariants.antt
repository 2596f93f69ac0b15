use Rattle.std.proofs.Common.{◌≡◌, ◌≤◌, take}
use Rattle.um_tidy.specs.Gaps.{trimmed}
use Rattle.um_tidy.proofs.white.trimmed_more.Given as goal

abbrev pub invariant-loop-len : goal.invariant-loop-len
invariant-loop-len l = record {
  within : l.len ≤ l.to;
  so_far : trimmed (take l.len l.bytes) ≡ trimmed (take l.to l.bytes);
}

abbrev pub decreases-loop-len : goal.decreases-loop-len
decreases-loop-len l = l.len

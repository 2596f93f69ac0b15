use Rattle.std.proofs.Common.{◌≡◌, ◌++◌, replicate}
use Rattle.um_tidy.proofs.columns.push_many_columns.Given as goal

abbrev pub invariant-loop-left : goal.invariant-loop-left
invariant-loop-left l = l.text.items ++ replicate l.left 32 ≡ l.fn.text.items ++ replicate l.n 32

abbrev pub decreases-loop-left : goal.decreases-loop-left
decreases-loop-left l = l.left

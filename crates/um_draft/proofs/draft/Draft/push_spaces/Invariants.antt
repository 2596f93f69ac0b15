use Rattle.std.proofs.Common.{◌≡◌, ◌++◌, replicate}
use Rattle.um_draft.proofs.draft.Draft.push_spaces.Given as goal

abbrev pub invariant-loop-left : goal.invariant-loop-left
invariant-loop-left l = l.self.items ++ replicate l.left 32 ≡ l.fn.self.items ++ replicate l.n 32

abbrev pub decreases-loop-left : goal.decreases-loop-left
decreases-loop-left l = l.left

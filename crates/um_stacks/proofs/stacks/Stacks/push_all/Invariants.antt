use Rattle.std.proofs.Common.{◌≡◌, ◌<◌, ◌++◌, length, vec_len}
use Rattle.um_stacks.specs.Stacks.{shapes_at, Grows, tops_of}
use Rattle.um_stacks.proofs.stacks.Stacks.push_all.Given as goal

abbrev pub invariant-loop-last : goal.invariant-loop-last
invariant-loop-last l =
    (l.stack < length l.self) × (shapes_at l.self l.stack ++ tops_of l.passed.items ≡ shapes_at l.fn.self l.low ++ tops_of l.fn.passed.items) × (Grows l.fn.self l.self)

abbrev pub decreases-loop-last : goal.decreases-loop-last
decreases-loop-last l = vec_len l.passed

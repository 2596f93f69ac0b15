use Rattle.std.proofs.Common.{◌≡◌, false, filter}
use Rattle.std.specs.Prelude.{slice_index_or}
use Rattle.std.specs.List.{range_with_len}
use Rattle.um_proof.proofs.renaming.marked.Given as goal

abbrev pub invariant-loop-k : goal.invariant-loop-k
invariant-loop-k l = l.held.items ≡ filter (λ k. slice_index_or l.marks k false) (range_with_len 0 l.k)

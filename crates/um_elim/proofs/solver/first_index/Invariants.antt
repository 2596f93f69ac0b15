use Rattle.std.proofs.Common.{◌≡◌, [], ◌∷◌, map, nat_lt, if◌then◌else◌}
use Rattle.std.specs.List.{range_with_len}
use Rattle.um_elim.proofs.solver.first_index.Given as goal

abbrev pub invariant-loop-slot : goal.invariant-loop-slot
invariant-loop-slot l = l.index.items ≡ map (λ k. if nat_lt k l.parameters then [] else k ∷ []) (range_with_len 0 l.slot)

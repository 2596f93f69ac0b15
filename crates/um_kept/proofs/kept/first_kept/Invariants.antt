use Rattle.std.proofs.Common.{◌≡◌, ◌++◌, replicate}
use Rattle.um_units.specs.PowerMap.{one}
use Rattle.um_elim.specs.Solution.{own_variables, rigid_units}
use Rattle.um_kept.proofs.kept.first_kept.Given as goal

abbrev pub invariant-loop-slot : goal.invariant-loop-slot
invariant-loop-slot l = record {
  solution : l.solution.items ≡ rigid_units l.head.bases l.head.parameters l.slot;
  back : l.back.items ≡ own_variables l.slot;
  parts : l.parts.items ≡ replicate l.slot one;
}

abbrev pub invariant-loop-k : goal.invariant-loop-k
invariant-loop-k l = l.back.items ≡ own_variables l.fn.head.slots ++ own_variables l.k

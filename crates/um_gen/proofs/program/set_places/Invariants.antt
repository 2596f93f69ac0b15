use Rattle.std.proofs.Common.{◌≡◌}
use Rattle.std.specs.List.{range_with_len}
use Rattle.um_gen.proofs.program.set_places.Given as goal

abbrev pub invariant-loop-k : goal.invariant-loop-k
invariant-loop-k l = record {
  places : l.out.places.items ≡ range_with_len 0 l.k;
  ops : l.out.ops.items ≡ l.initial.out.ops.items;
}

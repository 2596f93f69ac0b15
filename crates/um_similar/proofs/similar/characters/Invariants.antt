use Rattle.std.proofs.Common.{◌≡◌}
use Rattle.um_similar.proofs.similar.characters.Given as goal

abbrev pub invariant-loop-c : goal.invariant-loop-c
invariant-loop-c l = l.characters.items ≡ l.yielded

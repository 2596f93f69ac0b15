use Rattle.std.proofs.Common.{◌≡◌, drop}
use Rattle.um_scale.specs.Spelling.{by_place}
use Rattle.um_scale.proofs.placed.put_numbers.Given as goal

abbrev pub invariant-loop-k : goal.invariant-loop-k
invariant-loop-k l = l.numbers.items ≡ by_place l.fn.numbers.items (drop l.k l.literals)

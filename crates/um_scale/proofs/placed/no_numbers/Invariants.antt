use Rattle.std.proofs.Common.{◌≡◌, None, replicate}
use Rattle.um_scale.proofs.placed.no_numbers.Given as goal

abbrev pub invariant-loop : goal.invariant-loop
invariant-loop l = l.numbers.items ≡ replicate l.counter None

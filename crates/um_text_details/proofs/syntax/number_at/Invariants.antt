use Rattle.std.proofs.Common.{◌≡◌, ◌+◌, drop}
use Rattle.um_text_details.specs.Stops.{number_at}
use Rattle.um_text_details.proofs.syntax.number_at.Given as goal

abbrev pub invariant-loop-k : goal.invariant-loop-k
invariant-loop-k l = number_at l.tokens l.at ≡ l.k + number_at (drop l.k l.tokens) l.at

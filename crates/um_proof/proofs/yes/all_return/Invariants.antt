use Rattle.std.proofs.Common.{ℕ, ◌<◌}
use Rattle.um_wide.specs.Room.{IsNarrow}
use Rattle.um_check.specs.Validity.{returned}
use Rattle.um_proof.proofs.yes.all_return.Given as goal

abbrev pub invariant-loop-j : goal.invariant-loop-j
invariant-loop-j l = (j : ℕ) → j < l.j → IsNarrow (returned l.solution l.back j)

use Rattle.std.proofs.Common.{◌≡◌, ℕ, ◌<◌, get_or}
use Rattle.um_units.specs.PowerMap.{one, replace, nth}
use Rattle.um_equal_types.specs.Steps.{units_of}
use Rattle.um_check.proofs.becomes.solves.Given as goal

abbrev pub invariant-loop-row : goal.invariant-loop-row
invariant-loop-row l = (k : ℕ) → k < l.row-index → replace (nth l.units) (get_or (units_of l.rows) k one) ≡ one

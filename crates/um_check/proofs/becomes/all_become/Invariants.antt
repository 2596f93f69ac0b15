use Rattle.std.proofs.Common.{◌≡◌, ℕ, ◌<◌, get_or}
use Rattle.um_units.specs.PowerMap.{one, replace, nth}
use Rattle.um_check.proofs.becomes.all_become.Given as goal

abbrev pub invariant-loop-i : goal.invariant-loop-i
invariant-loop-i l = (k : ℕ) → k < l.i → replace (nth l.by) (get_or l.units k one) ≡ get_or l.wanted k one

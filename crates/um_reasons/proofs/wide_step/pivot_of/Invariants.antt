use Rattle.std.proofs.Common.{◌≡◌, ◌≤◌, length, drop}
use Rattle.std.specs.Prelude.{option_map}
use Rattle.um_pivots.specs.Pivot.{pivot_of}
use Rattle.um_units.specs.Wide.{as_terms}
use Rattle.um_reasons.specs.Wide.{as_pivot}
use Rattle.um_reasons.proofs.wide_step.pivot_of.Given as goal

abbrev pub invariant-loop-i : goal.invariant-loop-i
invariant-loop-i l = (l.i ≤ length l.terms) × (option_map as_pivot l.best ≡ pivot_of (as_terms (drop l.i l.terms)))

abbrev pub decreases-loop-i : goal.decreases-loop-i
decreases-loop-i l = l.i

-- The code's: what steps with powers of 64 bits make of units.
-- Source: this project's own; no public clause rests on it.
use Rattle.std.specs.Prelude.{◌≡◌, ℕ, List, map, All, ℤ, pos, negsuc, nat_abs}
use Rattle.um_units.specs.PowerMap.{PowerMap, replace}
use Rattle.um_pivots.specs.declared.pivot.Pivot.{Pivot}
use Rattle.um_elim.specs.ElimStep.{step, inverted_if_negative}
use Rattle.um_wide.specs.Room.{IsNarrow}
use Rattle.um_reasons.specs.declared.wide_step.Stepped.{Stepped}
use Rattle.um_reasons.specs.declared.wide_step.WidePivot.{WidePivot}

-- the pivot that a wide one stands for
abbrev pub as_pivot : WidePivot → Pivot
as_pivot at = record { variable = at.variable; power = at.power }

abbrev pub sign_of : ℤ → ℤ
sign_of (pos n) = pos 1
sign_of (negsuc n) = negsuc 0

-- r with the sign that makes the pivot's power positive
abbrev pub positive_at : Pivot → PowerMap → PowerMap
positive_at at r = inverted_if_negative at.power r

-- the step at a pivot of r
abbrev pub step_for : Pivot → PowerMap → ℕ → PowerMap
step_for at r = step at.variable (nat_abs at.power) (positive_at at r)

-- it is made in each unit, and in r itself
pub record IsAfterStep (at : Pivot) (us : List PowerMap) (r : PowerMap) (after : Stepped) : Type 0 where
  pub units : after.units.items ≡ map (replace (step_for at r)) us
  pub left : after.left ≡ replace (step_for at r) (positive_at at r)
  pub narrow : All IsNarrow after.units.items
  pub left_narrow : IsNarrow after.left

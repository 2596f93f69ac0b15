-- The wildcard `_` on a number.
-- Source: F# specification, Units Of Measure: 0<_> alone may leave its unit open, since no other number has every unit.
use Rattle.std.specs.Prelude.{ℕ, Bool, false, cond, ◌==◌, ℤ, pos, negsuc, Ok, Err}
use Rattle.um_frac.specs.declared.number.Frac.{Frac}
use Rattle.um_frac.specs.Fraction.{numerator}
use Rattle.um_tree.specs.declared.note.UnitNote.{UnitNote}
use Rattle.um_tree.specs.declared.note.UnitNote.TheVariants as note
use Rattle.um_measures.specs.Faults.{hole, Found}

abbrev pub is_zero : ℤ → Bool
is_zero (pos n) = n == 0
is_zero (negsuc n) = false

-- the unit of a number with the wildcard stays open, if the number is 0; the fault has the number's place
abbrev pub open_unit : Frac → ℕ → Found UnitNote
open_unit number at = cond (is_zero (numerator number)) (Ok note.Hole) (Err (hole at))

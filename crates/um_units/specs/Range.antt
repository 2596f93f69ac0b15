-- The range of powers, which is an invariant of the code alone, and the refusal of what lies outside.
-- Source: this project's own; the powers of Kennedy (1996) have no bound.
use Rattle.std.specs.Prelude.{nat_le, nat_abs, Bool, IsTrue, IsFalse, List, ℤ, Result, MatchResult}
use Rattle.std.specs.List.{list_all}
use Rattle.um_units.specs.declared.Term.{Term}
use Rattle.um_units.specs.Terms.{is_normal}
use Rattle.um_units.specs.PowerMap.{PowerMap}
use Rattle.um_units.specs.declared.UnitStop.{UnitStop}
use Rattle.um_units.specs.declared.UnitStop.TheVariants.{Range, NoMemory}

-- the power lies in -2147483647..2147483647
abbrev pub in_range : ℤ → Bool
in_range z = nat_le (nat_abs z) 2147483647

-- each power of the list does
abbrev pub all_in_range : List Term → Bool
all_in_range = list_all (λ t. in_range t.power)

-- each power of the unit lies in -2147483647..2147483647
abbrev pub fits : PowerMap → Bool
fits u = all_in_range u.terms

-- what the code keeps of a unit as its terms: they are in normal form, and their powers in range
pub record IsKept (ts : List Term) : Type 0 where
  pub normal : IsTrue (is_normal ts)
  pub fit : IsTrue (all_in_range ts)

-- why a call stopped: Range only if the test fails
abbrev pub IsStopUnless : Bool → UnitStop → Type 0
IsStopUnless b Range = IsFalse b
IsStopUnless b NoMemory = Unit {0}

-- Range exactly if the test fails, unless memory ran out
abbrev pub RangeUnless : {X : Type 0} → Result X UnitStop → Bool → Type 0
RangeUnless r b = MatchResult r (λ _. IsTrue b) (IsStopUnless b)

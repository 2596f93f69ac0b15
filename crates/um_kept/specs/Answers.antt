-- What the treatment of rows answers, and how the code keeps what the definitions keep. Want of memory may come in
-- place of every answer.
-- Source: this project's own.
use Rattle.std.specs.Prelude.{◌≡◌, ◌⊎◌, ℕ, ◌+◌, ◌-◌, ◌<◌, if◌then◌else◌, List, length, All, slice_index_or, IsTrue, pos}
use Rattle.std.specs.Prelude.{nat_abs}
use Rattle.std.specs.Int.Signed.{◌<ℤ◌}
use Rattle.um_units.specs.declared.Atom.{Atom}
use Rattle.um_units.specs.declared.Atom.TheVariants.{Base, Var}
use Rattle.um_units.specs.PowerMap.{PowerMap, one, atom, power_of, nth}
use Rattle.um_units.specs.Variables.{VariablesBelow, atom_below}
use Rattle.um_wide.specs.Room.{IsNarrow}
use Rattle.um_elim.specs.declared.elim_step.ElimStep.{ElimStep}
use Rattle.um_elim.specs.EliminationSteps.{AreStepsOf, IsClosedLeft, IsStuck}
use Rattle.um_equal_types.specs.declared.row.Row.{Row}
use Rattle.um_rows.specs.Generalised.{is_parameter}
use Rattle.um_equal_types.specs.Steps.{units_of}
use Rattle.um_kept.specs.declared.kept.PartialCertificate.{PartialCertificate}
use Rattle.um_kept.specs.declared.kept.Head.{Head}
use Rattle.um_kept.specs.declared.row.Refused.{Refused}
use Rattle.um_kept.specs.declared.stop.CertStop.{CertStop}
use Rattle.um_kept.specs.declared.stop.CertStop.TheVariants as stop
use Rattle.um_kept.specs.declared.made.Treated.{Treated}
use Rattle.um_kept.specs.declared.made.Treated.TheVariants as treated
use Rattle.um_kept.specs.Kept.{Kept, row_unit, row_total, first, IsReached}
use Rattle.um_kept.specs.Formed.{IsPowerIn, IsModulus, PassesInRows}

-- the base unit of no unit parameter, which come after the declared ones, stands in it
abbrev pub HoldsNoParameter : ℕ → ℕ → PowerMap → Type 0
HoldsNoParameter bases parameters u = (i : ℕ) → i < parameters → power_of u (Base (bases + i)) ≡ pos 0

-- a power of the unit passes the limit, and is carried
abbrev pub CarriesPower : ℕ → PowerMap → CertStop → Type 0
CarriesPower limit u (stop.CertRange z) = IsPowerIn z u × (limit < nat_abs z)
CarriesPower limit u stop.NoMemory = Unit {0}

-- what the code keeps: the inverse image of base unit bases + k of parameter k stands after those of the slots
abbrev pub back_at : Head → List PowerMap → Atom → PowerMap
back_at h bs (Base n) =
    if is_parameter h.bases h.parameters h.slots n
    then slice_index_or bs (h.slots + (n - h.bases)) one
    else atom (Base n)
back_at h bs (Var k) = nth bs k

pub record Agrees (h : Head) (m : PartialCertificate) (kept : Kept) : Type 0 where
  pub solution : m.solution.items ≡ kept.solution
  pub count : length m.solution.items ≡ h.slots
  pub below : All (VariablesBelow h.slots) m.solution.items
  pub back_count : length m.back.items ≡ h.slots + h.parameters
  pub back : (y : Atom) → IsTrue (atom_below h.slots y) → kept.back y ≡ back_at h m.back.items y
  pub divisor : m.divisor ≡ kept.divisor
  pub positive : pos 0 <ℤ m.divisor
  pub parts_count : length m.parts.items ≡ h.slots
  pub parts : (j : ℕ) → j < h.slots → kept.parts j ≡ slice_index_or m.parts.items j one
  pub narrow : All IsNarrow m.parts.items

-- a product of rows with this modulus shows that the row has no solution
pub record IsRefusedAs (rows : List PowerMap) (kept : Kept) (k : ℕ) (refused : Refused) : Type 0 where
  pub steps : List ElimStep
  pub are : AreStepsOf (row_unit rows kept k) steps
  pub modulus : IsModulus rows kept k steps refused.modulus
  pub total : refused.total ≡ row_total rows kept k steps
  pub ends : IsClosedLeft steps (row_unit rows kept k) ⊎ IsStuck steps (row_unit rows kept k)
  pub narrow : IsNarrow refused.total

-- ---- rows one after another

abbrev pub start : Head → Kept
start h = first h.bases h.parameters h.slots

-- the row has no solution together with those before it
abbrev pub AreRefused : Head → List Row → ℕ → Refused → Type 0
AreRefused h rows row refused =
    (kept : Kept) × (row < length rows) × IsReached (units_of rows) (start h) row kept
    × IsRefusedAs (units_of rows) kept row refused

-- what is kept after all rows, or the first that has no solution together with those before it
abbrev pub AreMade : Head → List Row → Treated → Type 0
AreMade h rows (treated.Made partial) =
    (kept : Kept) × IsReached (units_of rows) (start h) (length rows) kept × Agrees h partial kept
AreMade h rows (treated.Refused row refused) = AreRefused h rows row refused

abbrev pub CarriesInRows : Head → List Row → CertStop → Type 0
CarriesInRows h rows (stop.CertRange z) = PassesInRows (units_of rows) (start h) z
CarriesInRows h rows stop.NoMemory = Unit {0}

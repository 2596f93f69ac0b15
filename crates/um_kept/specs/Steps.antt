-- The code's: what the parts of a row's treatment answer.
-- Source: this project's own; no clause of a public call rests on it.
use Rattle.std.specs.Prelude.{◌≡◌, ◌⊎◌, ℕ, ◌+◌, ◌<◌, ◌≤◌, if◌then◌else◌, Bool, true, false, not, All, List, [], ◌∷◌}
use Rattle.std.specs.Prelude.{length, map, set, slice_index_or, ℤ, pos, negsuc, nat_abs, ◌*ℤ◌, Option, Some, None}
use Rattle.std.specs.Int.Signed.{◌<ℤ◌}
use Rattle.um_units.specs.declared.Atom.TheVariants.{Base, Var}
use Rattle.um_units.specs.declared.Term.{Term}
use Rattle.um_units.specs.PowerMap.{PowerMap, one, mul, inv, pow, power_of, replace, nth}
use Rattle.um_units.specs.Variables.{VariablesBelow}
use Rattle.um_wide.specs.Room.{IsNarrow}
use Rattle.um_elim.specs.declared.elim_step.ElimStep.{ElimStep}
use Rattle.um_pivots.specs.Pivot.{has_other, is_base}
use Rattle.um_elim.specs.ElimStep.{multiply, signed}
use Rattle.um_elim.specs.EliminationSteps.{unit_after, AreStepsOf}
use Rattle.um_rows.specs.Generalised.{generalised_unit}
use Rattle.um_kept.specs.declared.kept.PartialCertificate.{PartialCertificate}
use Rattle.um_kept.specs.declared.kept.Head.{Head}
use Rattle.um_kept.specs.declared.row.Refused.{Refused}
use Rattle.um_kept.specs.declared.stop.CertStop.{CertStop}
use Rattle.um_kept.specs.declared.stop.CertStop.TheVariants as stop
use Rattle.um_check.specs.Existence.{at_slot, total, parts_after}
use Rattle.um_kept.specs.Kept.{Kept, row_unit, kept_after_steps, IsRowMade}
use Rattle.um_kept.specs.Formed.{IsPowerIn, PassesInRow}
use Rattle.um_kept.specs.Answers.{Agrees, IsRefusedAs}

-- the number passes 64 bits, and is carried
abbrev pub CarriesNumber : ℤ → CertStop → Type 0
CarriesNumber n (stop.CertRange z) = (z ≡ n) × (9223372036854775807 < nat_abs z)
CarriesNumber n stop.NoMemory = Unit {0}

-- a power of the unit or the number passes 64 bits, and is carried
abbrev pub CarriesRefusal : PowerMap → ℤ → CertStop → Type 0
CarriesRefusal u n (stop.CertRange z) = (IsPowerIn z u ⊎ (z ≡ n)) × (9223372036854775807 < nat_abs z)
CarriesRefusal u n stop.NoMemory = Unit {0}

-- a power of one of the units does
abbrev pub CarriesOneOf : ℕ → List PowerMap → CertStop → Type 0
CarriesOneOf limit us (stop.CertRange z) = (j : ℕ) × (j < length us) × IsPowerIn z (nth us j) × (limit < nat_abs z)
CarriesOneOf limit us stop.NoMemory = Unit {0}

-- a row is treated: it is made, or has no solution
abbrev pub IsRowTreated : List PowerMap → Kept → ℕ → Head → PartialCertificate → Option Refused → Type 0
IsRowTreated rows kept k h new None = (next : Kept) × IsRowMade rows kept k next × Agrees h new next
IsRowTreated rows kept k h new (Some refused) = IsRefusedAs rows kept k refused

abbrev pub CarriesInRow : List PowerMap → Kept → ℕ → CertStop → Type 0
CarriesInRow rows kept k (stop.CertRange z) = PassesInRow rows kept k z
CarriesInRow rows kept k stop.NoMemory = Unit {0}

-- the steps invert the row an odd number of times
abbrev pub is_inverted : List ElimStep → Bool
is_inverted [] = false
is_inverted (t ∷ ts) = if t.inverted then not (is_inverted ts) else is_inverted ts

-- after some steps of the row
pub record IsRowUnderWay
    (rows : List PowerMap) (kept : Kept) (k : ℕ) (h : Head) (m : PartialCertificate)
    (r : PowerMap) (inverted : Bool) : Type 0 where
  pub steps : List ElimStep
  pub are : AreStepsOf (row_unit rows kept k) steps
  pub left : r ≡ unit_after steps (row_unit rows kept k)
  pub agrees : Agrees h m (kept_after_steps rows kept k steps)
  pub sign : inverted ≡ is_inverted steps

-- what is kept is ready for a row over its slots
pub record IsReady (m : PartialCertificate) (row : PowerMap) : Type 0 where
  pub few : length m.parts.items ≤ 2000
  pub narrow : All IsNarrow m.parts.items
  pub below : VariablesBelow (length m.parts.items) row
  pub positive : pos 0 <ℤ m.divisor

-- the powers of rows that the inverse substitution gives for row k
abbrev pub total_in : PartialCertificate → PowerMap → ℕ → PowerMap
total_in m row k = total (λ j. slice_index_or m.parts.items j one) row k m.divisor

-- ---- the end of a row: each slot's powers of rows after it

abbrev pub parts_at : ℕ → ℕ → PowerMap → List PowerMap → List PowerMap → ℕ → PowerMap
parts_at m p t solution parts = parts_after m p t solution (λ j. slice_index_or parts j one)

pub record ArePartsAfter (m p : ℕ) (t : PowerMap) (solution old new : List PowerMap) : Type 0 where
  pub count : length new ≡ length old
  pub parts : (j : ℕ) → j < length old → slice_index_or new j one ≡ parts_at m p t solution old j

abbrev pub CarriesOneOfParts : ℕ → ℕ → PowerMap → List PowerMap → List PowerMap → CertStop → Type 0
CarriesOneOfParts m p t solution old (stop.CertRange z) =
    (j : ℕ) × (j < length old) × IsPowerIn z (parts_at m p t solution old j) × (9223372036854775807 < nat_abs z)
CarriesOneOfParts m p t solution old stop.NoMemory = Unit {0}

-- ---- a row's powers of rows, with a sign

abbrev pub sign_of : Bool → ℤ
sign_of true = negsuc 0
sign_of false = pos 1

-- how many of the terms are those of variables
abbrev pub variable_count : List Term → ℕ
variable_count [] = 0
variable_count (t ∷ ts) = (if is_base t.atom then 0 else 1) + variable_count ts

abbrev pub parts_product : ℤ → List PowerMap → List Term → PowerMap
parts_product sign parts [] = one
parts_product sign parts (t ∷ ts) =
    mul (pow (at_slot (λ j. slice_index_or parts j one) t.atom) (sign *ℤ t.power)) (parts_product sign parts ts)

-- ---- the absolute power of the first term

abbrev pub first_size : List Term → Option ℕ
first_size [] = None
first_size (t ∷ ts) = Some (nat_abs t.power)

-- ---- one step, of what the code keeps

-- what the step's variable x goes back to after x times w was put for it
abbrev pub divided_at : Head → List PowerMap → ℕ → PowerMap → PowerMap
divided_at h bs x w =
    mul (nth bs x) (inv (replace (nth bs) (generalised_unit h.bases h.parameters h.slots w)))

pub record IsAfterStep (h : Head) (old new : PartialCertificate) (x : ℕ) (w : PowerMap) : Type 0 where
  pub solution : new.solution.items ≡ map (replace (multiply x w)) old.solution.items
  pub back : new.back.items ≡ set old.back.items x (divided_at h old.back.items x w)
  pub divisor : new.divisor ≡ old.divisor
  pub parts : new.parts ≡ old.parts

-- a power of the row, of a slot's unit or of the way back
abbrev pub CarriesInStep :
    Head → List PowerMap → List PowerMap → PowerMap → ℕ → Bool → PowerMap → CertStop → Type 0
CarriesInStep h solution bs r x inverted w (stop.CertRange z) =
    (2147483647 < nat_abs z)
    × (IsPowerIn z (replace (multiply x w) (signed inverted r))
    ⊎ ((j : ℕ) × (j < length solution) × IsPowerIn z (replace (multiply x w) (nth solution j)))
    ⊎ IsPowerIn z (divided_at h bs x w))
CarriesInStep h solution bs r x inverted w stop.NoMemory = Unit {0}

-- variable m stands in the unit to a positive power, no other does, and the powers of base units are below m's
pub record IsLeftAlone (m : ℕ) (r : PowerMap) : Type 0 where
  pub p : ℕ
  pub positive : 0 < p
  pub is : power_of r (Var m) ≡ pos p
  pub alone : has_other m r ≡ false
  pub small : (n : ℕ) → (e : ℕ) × (power_of r (Base n) ≡ pos e) × (e < p)

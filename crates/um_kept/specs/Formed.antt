-- The numbers that the making of a certificate forms, and those of them that pass what a certificate can hold.
-- Source: this project's own.
use Rattle.std.specs.Prelude.{◌≡◌, ◌≢◌, ◌⊎◌, ℕ, ◌+◌, ◌<◌, List, length, ℤ, pos, nat_abs, ◌*ℤ◌}
use Rattle.um_units.specs.declared.Atom.{Atom}
use Rattle.um_units.specs.declared.Atom.TheVariants.{Base, Var}
use Rattle.um_units.specs.PowerMap.{PowerMap, power_of, atom, mul, inv, nth, extension}
use Rattle.um_elim.specs.declared.elim_step.ElimStep.{ElimStep}
use Rattle.um_elim.specs.EliminationSteps.{unit_after, units_after, AreStepsOf, IsStuck}
use Rattle.um_check.specs.Existence.{inverse_after, parts_after}
use Rattle.um_kept.specs.Kept.{Kept, row_unit, row_total, LeavePower, IsReached}

-- the number is an atom's power in the unit
abbrev pub IsPowerIn : ℤ → PowerMap → Type 0
IsPowerIn z u = (x : Atom) × (power_of u x ≡ z)

-- no variable stands in the unit, and base unit n is its least
pub record HasLeastBase (u : PowerMap) (n : ℕ) : Type 0 where
  pub closed : (k : ℕ) → power_of u (Var k) ≡ pos 0
  pub held : power_of u (Base n) ≢ pos 0
  pub least : (m : ℕ) → m < n → power_of u (Base m) ≡ pos 0

module _ (rows : List PowerMap) (kept : Kept) (k : ℕ) where
  -- ---- powers of units: after some steps of the row, of what it became, of a slot's unit, or on the way back

  abbrev pub IsUnitPower : ℤ → Type 0
  IsUnitPower z =
      (ts : List ElimStep) × AreStepsOf (row_unit rows kept k) ts
      × (IsPowerIn z (unit_after ts (row_unit rows kept k))
      ⊎ ((j : ℕ) × (j < length kept.solution) × IsPowerIn z (nth (units_after ts kept.solution) j))
      ⊎ ((m : ℕ) × IsPowerIn z (inverse_after ts kept.back (Var m))))

  -- ---- powers of rows, divisors and moduli

  -- where the steps leave variable m to the power p: of the row, of a slot, or the divisor
  abbrev pub IsNumberOfEnd : List ElimStep → ℤ → Type 0
  IsNumberOfEnd ts z =
      (m p : ℕ) × LeavePower rows kept k ts m p
      × (IsPowerIn z (row_total rows kept k ts)
      ⊎ ((j : ℕ) × (j < length kept.solution)
      × IsPowerIn z (parts_after m p (row_total rows kept k ts) (units_after ts kept.solution) kept.parts j))
      ⊎ (z ≡ kept.divisor *ℤ pos p))

  -- where they leave what nothing makes 1
  abbrev pub IsModulus : List ElimStep → ℤ → Type 0
  IsModulus ts z =
      ((stuck : IsStuck ts (row_unit rows kept k)) × (z ≡ kept.divisor *ℤ pos stuck.p))
      ⊎ ((n : ℕ) × HasLeastBase (unit_after ts (row_unit rows kept k)) n
      × (z ≡ kept.divisor *ℤ pos (nat_abs (power_of (unit_after ts (row_unit rows kept k)) (Base n)) + 1)))

  abbrev pub IsNumberOfRefusal : List ElimStep → ℤ → Type 0
  IsNumberOfRefusal ts z =
      (modulus : ℤ) × IsModulus ts modulus × ((z ≡ modulus) ⊎ IsPowerIn z (row_total rows kept k ts))

  abbrev pub IsNumber : ℤ → Type 0
  IsNumber z =
      (ts : List ElimStep) × AreStepsOf (row_unit rows kept k) ts × (IsNumberOfEnd ts z ⊎ IsNumberOfRefusal ts z)

  -- ---- it passes what holds it: -2147483647..2147483647 or -9223372036854775807..9223372036854775807
  abbrev pub PassesInRow : ℤ → Type 0
  PassesInRow z =
      (IsUnitPower z × (2147483647 < nat_abs z)) ⊎ (IsNumber z × (9223372036854775807 < nat_abs z))

-- in some row
abbrev pub PassesInRows : List PowerMap → Kept → ℤ → Type 0
PassesInRows rows start z =
    (k : ℕ) × (k < length rows) × (kept : Kept) × IsReached rows start k kept × PassesInRow rows kept k z

-- after all rows: a power of what a slot comes back to, over the slot
abbrev pub PassesAtEnd : List PowerMap → Kept → ℤ → Type 0
PassesAtEnd rows start z =
    (kept : Kept) × IsReached rows start (length rows) kept
    × (j : ℕ) × (j < length kept.solution)
    × IsPowerIn z (mul (extension kept.back (nth kept.solution j)) (inv (atom (Var j))))
    × (9223372036854775807 < nat_abs z)

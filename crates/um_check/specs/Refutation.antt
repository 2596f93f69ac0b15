-- What makes a No valid, and what it is to show.
-- Source: Schrijver (Theory of Linear and Integer Programming, 1986, section 4.1): a system of integer equations has no
-- solution exactly where some combination of it has none modulo a number. Kennedy (1996): a declared unit parameter is
-- a constant of unification. The form of a No is this project's own.
use Rattle.std.specs.Prelude.{ℕ, suc, ◌<◌, if◌then◌else◌, Bool, List, length, map, take, ℤ, pos}
use Rattle.std.specs.Int.Signed.{◌≤ℤ◌}
use Rattle.um_units.specs.declared.Atom.TheVariants.{Base, Var}
use Rattle.um_units.specs.PowerMap.{PowerMap, power_of, replace}
use Rattle.um_units.specs.Solutions.{IsJointSolution}
use Rattle.um_elim.specs.Solution.{rigid_unit}
use Rattle.um_rows.specs.Solutions.{IsRigid}
use Rattle.um_check.specs.declared.certificate.No.{No}
use Rattle.um_check.specs.Combination.{combined, NamesRowsBelow, IsMultiple}

-- no units for the variables make the unit 1: each variable's power is a multiple of the modulus, and some base unit's
-- isn't
pub record IsApart (modulus : ℤ) (u : PowerMap) : Type 0 where
  pub slots : (k : ℕ) → IsMultiple modulus (power_of u (Var k))
  pub base : (n : ℕ) × ¬ IsMultiple modulus (power_of u (Base n))

-- how many slots are units of their own: those of the unit parameters, or none
abbrev pub fixed_slots : Bool → ℕ → ℕ
fixed_slots loose parameters = if loose then 0 else parameters

-- the rows with the base unit bases + k put for each such slot k
abbrev pub rigid_rows : ℕ → ℕ → List PowerMap → List PowerMap
rigid_rows bases fixed rows = map (replace (rigid_unit bases fixed)) rows

-- the certificate is valid for the rows
pub record IsValidNo (bases parameters : ℕ) (rows : List PowerMap) (c : No) : Type 0 where
  pub proper : pos 2 ≤ℤ c.modulus
  pub in_list : c.last < length rows
  pub named : NamesRowsBelow (suc c.last) c.parts
  pub apart : IsApart c.modulus (combined (rigid_rows bases (fixed_slots c.loose parameters) rows) c.parts)

-- ---- what it is to show

-- no joint solution of the rows up to the last has the unit of its own at each such slot, however many slots there are
abbrev pub HasNone : Bool → ℕ → ℕ → List PowerMap → ℕ → Type 0
HasNone loose bases parameters rows last =
    (slots : ℕ) (units : List PowerMap) → IsJointSolution slots (take (suc last) rows) units →
    IsRigid bases (fixed_slots loose parameters) units → ⊥

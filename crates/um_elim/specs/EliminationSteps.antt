-- Elimination steps of a unit as data: what they make of units, and what they leave of the unit.
-- Source: Kennedy (1996), on unification in the free abelian group: x is replaced by x times a product of the other
-- atoms, which brings their powers below x's. That steps are data is this project's own.
use Rattle.std.specs.Prelude.{◌==◌, ◌≡◌, ◌≢◌, ◌⊎◌, ℕ, ◌<◌, false, List, [], ◌∷◌, map, All, pos}
use Rattle.um_units.specs.declared.Atom.TheVariants.{Base, Var}
use Rattle.um_units.specs.PowerMap.{PowerMap, power_of, one, atom, pow, replace}
use Rattle.um_elim.specs.declared.elim_step.ElimStep.{ElimStep}
use Rattle.um_elim.specs.ElimStep.{substitute, multiply, signed, IsStepOf}

-- ---- steps one after another

-- the unit that they leave of r
abbrev pub unit_after : List ElimStep → PowerMap → PowerMap
unit_after [] r = r
unit_after (t ∷ ts) r = unit_after ts (replace (multiply t.variable t.by) (signed t.inverted r))

-- what they make of units that are kept beside it
abbrev pub units_after : List ElimStep → List PowerMap → List PowerMap
units_after [] us = us
units_after (t ∷ ts) us = units_after ts (map (replace (multiply t.variable t.by)) us)

-- each is the step of what those before it leave of r
abbrev pub AreStepsOf : PowerMap → List ElimStep → Type 0
AreStepsOf r [] = Unit {0}
AreStepsOf r (t ∷ ts) = IsStepOf r t × AreStepsOf (replace (multiply t.variable t.by) (signed t.inverted r)) ts

-- the variable doesn't occur in what it is multiplied by, so that the step can be undone
abbrev pub IsShear : ElimStep → Type 0
IsShear t = power_of t.by (Var t.variable) ≡ pos 0

-- ---- rows that are solved

-- they leave 1
pub record LeavesOne (ts : List ElimStep) (us : List PowerMap) (r : PowerMap) (vs : List PowerMap) : Type 0 where
  pub left : unit_after ts r ≡ one
  pub units : vs ≡ units_after ts us

-- they leave x^p, and then x becomes 1
pub record LeavesPower (ts : List ElimStep) (us : List PowerMap) (r : PowerMap) (vs : List PowerMap) : Type 0 where
  pub m : ℕ
  pub p : ℕ
  pub positive : 0 < p
  pub left : unit_after ts r ≡ pow (atom (Var m)) (pos p)
  pub units : vs ≡ map (replace (substitute m one)) (units_after ts us)

-- the steps of r make vs of the units us
pub record IsSolvedBySteps (us : List PowerMap) (r : PowerMap) (vs : List PowerMap) : Type 0 where
  pub steps : List ElimStep
  pub are : AreStepsOf r steps
  pub shears : All IsShear steps
  pub ends : LeavesOne steps us r vs ⊎ LeavesPower steps us r vs

-- ---- rows that are refused

-- the steps leave no variable and some base unit
pub record IsClosedLeft (ts : List ElimStep) (r : PowerMap) : Type 0 where
  pub closed : (k : ℕ) → power_of (unit_after ts r) (Var k) ≡ pos 0
  pub n : ℕ
  pub nonzero : power_of (unit_after ts r) (Base n) ≢ pos 0

-- they leave one variable, to a power p, and a base unit's power between 0 and p
pub record IsStuck (ts : List ElimStep) (r : PowerMap) : Type 0 where
  pub m : ℕ
  pub p : ℕ
  pub positive : 0 < p
  pub is : power_of (unit_after ts r) (Var m) ≡ pos p
  pub alone : (k : ℕ) → (m == k) ≡ false → power_of (unit_after ts r) (Var k) ≡ pos 0
  pub n : ℕ
  pub e : ℕ
  pub e_positive : 0 < e
  pub below : e < p
  pub base : power_of (unit_after ts r) (Base n) ≡ pos e

-- the steps of r show that nothing makes it 1
pub record IsRefusedBySteps (r : PowerMap) : Type 0 where
  pub steps : List ElimStep
  pub are : AreStepsOf r steps
  pub shears : All IsShear steps
  pub ends : IsClosedLeft steps r ⊎ IsStuck steps r

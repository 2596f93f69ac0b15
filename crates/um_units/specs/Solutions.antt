-- Joint solutions of a list of units over slots, and instances of a list of units.
-- Source: Kennedy (1996) on unification in the free abelian group: a unifier makes a unit equal to 1, and an instance
-- is what a substitution gives. That a solution is a list over numbered slots is this project's own.
use Rattle.std.specs.Prelude.{◌≡◌, ℕ, List, map, length, All}
use Rattle.um_units.specs.PowerMap.{PowerMap, one, replace, nth}

-- the substitution makes each row equal to 1
abbrev pub Solves : (ℕ → PowerMap) → List PowerMap → Type 0
Solves s rows = All (λ row. replace s row ≡ one) rows

-- a list of one unit for each slot that, put for the slots, makes each row equal to 1
pub record IsJointSolution (slots : ℕ) (rows units : List PowerMap) : Type 0 where
  pub per_slot : length units ≡ slots
  pub solves : Solves (nth units) rows

-- the rows have a joint solution
abbrev pub IsSolvable : ℕ → List PowerMap → Type 0
IsSolvable slots rows = (units : List PowerMap) × IsJointSolution slots rows units

-- some substitution gives v for the units
abbrev pub IsSubstitutionInstance : List PowerMap → List PowerMap → Type 0
IsSubstitutionInstance units v = (s : ℕ → PowerMap) × (map (replace s) units ≡ v)

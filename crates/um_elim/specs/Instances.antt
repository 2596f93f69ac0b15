-- What an outcome says of the instances of the slots' units.
-- Source: Kennedy (1996): a unifier is most general if its instances are exactly the unifiers.
use Rattle.std.specs.Prelude.{◌≡◌, ◌↔◌, ℕ, List}
use Rattle.um_units.specs.PowerMap.{PowerMap, one, replace, nth}
use Rattle.um_units.specs.Solutions.{IsSubstitutionInstance, IsJointSolution, IsSolvable}
use Rattle.um_elim.specs.Elimination.{Elimination, Solved, NoSolution, Range}

-- the units v, put for the slots, make the row equal to 1
abbrev pub Satisfies : List PowerMap → PowerMap → Type 0
Satisfies v row = replace (nth v) row ≡ one

-- the instances of the new units are exactly those of the old ones that satisfy the row
abbrev pub IsMostGeneral : List PowerMap → PowerMap → List PowerMap → Type 0
IsMostGeneral old row new =
    (v : List PowerMap) → IsSubstitutionInstance new v ↔ (IsSubstitutionInstance old v × Satisfies v row)

-- no instance of the units satisfies the row
abbrev pub IsUnsatisfiable : List PowerMap → PowerMap → Type 0
IsUnsatisfiable old row = (v : List PowerMap) → IsSubstitutionInstance old v → Satisfies v row → ⊥

abbrev pub IsRight : List PowerMap → PowerMap → Elimination → Type 0
IsRight old row (Solved new) = IsMostGeneral old row new
IsRight old row NoSolution = IsUnsatisfiable old row
IsRight old row Range = Unit {0}

-- the instances of the units are exactly the joint solutions of the rows
abbrev pub SolvesExactly : ℕ → List PowerMap → List PowerMap → Type 0
SolvesExactly slots rows units = (v : List PowerMap) → IsSubstitutionInstance units v ↔ IsJointSolution slots rows v

-- what an outcome says of the joint solutions of all rows
abbrev pub IsJointlyRight : ℕ → List PowerMap → Elimination → Type 0
IsJointlyRight slots rows (Solved units) = SolvesExactly slots rows units
IsJointlyRight slots rows NoSolution = IsSolvable slots rows → ⊥
IsJointlyRight slots rows Range = Unit {0}

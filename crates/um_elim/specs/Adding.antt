-- What it is to add a row to a solution.
-- Source: Kennedy (1996), on unification in the free abelian group. That a solver which refused a row is spent is this
-- project's own.
use Rattle.std.specs.Prelude.{◌≡◌, ℕ, ◌++◌, true, false, List, [], ◌∷◌, length, All, Result, Ok, Err}
use Rattle.um_units.specs.PowerMap.{PowerMap}
use Rattle.um_units.specs.Variables.{VariablesBelow}
use Rattle.um_units.specs.Solutions.{IsSolvable}
use Rattle.um_elim.specs.declared.stop.ElimStop.{ElimStop}
use Rattle.um_elim.specs.declared.stop.ElimStop.TheVariants as stop
use Rattle.um_elim.specs.Elimination.{Solved, NoSolution, Range, eliminate}
use Rattle.um_elim.specs.Instances.{IsMostGeneral, IsUnsatisfiable, SolvesExactly}
use Rattle.um_elim.specs.Solution.{Solution}

-- the answer is what the elimination gives, unless a row was refused before or memory ran out. A refusal spends the
-- solver
abbrev pub IsAdded : Solution → PowerMap → Solution → Result (Unit {0}) ElimStop → Type 0
IsAdded old row new (Ok _) =
    (old.spent ≡ false) × (eliminate old.units row ≡ Solved new.units) × (new.spent ≡ false)
IsAdded old row new (Err stop.Spent) = (old.spent ≡ true) × (new ≡ old)
IsAdded old row new (Err stop.NoSolution) =
    (old.spent ≡ false) × (eliminate old.units row ≡ NoSolution) × (new.spent ≡ true)
IsAdded old row new (Err stop.Range) =
    (old.spent ≡ false) × (eliminate old.units row ≡ Range) × (new.spent ≡ true)
IsAdded old row new (Err stop.NoMemory) = (old.spent ≡ false) × (new.spent ≡ true)

-- what the answer says of the instances: after Ok they are those that satisfy the row, and after NoSolution none does
abbrev pub HasInstances : Solution → PowerMap → Solution → Result (Unit {0}) ElimStop → Type 0
HasInstances old row new (Ok _) = IsMostGeneral old.units row new.units
HasInstances old row new (Err stop.Spent) = Unit {0}
HasInstances old row new (Err stop.NoSolution) = IsUnsatisfiable old.units row
HasInstances old row new (Err stop.Range) = Unit {0}
HasInstances old row new (Err stop.NoMemory) = Unit {0}

-- what the answer says of the rows, if the instances were exactly the joint solutions of those before
abbrev pub SolvesRows : Solution → PowerMap → Solution → Result (Unit {0}) ElimStop → Type 0
SolvesRows old row new (Ok _) =
    (rows : List PowerMap) →
    SolvesExactly (length old.units) rows old.units → SolvesExactly (length old.units) (rows ++ row ∷ []) new.units
SolvesRows old row new (Err stop.Spent) = Unit {0}
SolvesRows old row new (Err stop.NoSolution) =
    (rows : List PowerMap) →
    SolvesExactly (length old.units) rows old.units → IsSolvable (length old.units) (rows ++ row ∷ []) → ⊥
SolvesRows old row new (Err stop.Range) = Unit {0}
SolvesRows old row new (Err stop.NoMemory) = Unit {0}

-- the units' variables stay below each number that they were below
abbrev pub VariablesStayBelow : List PowerMap → List PowerMap → Type 0
VariablesStayBelow old new = (n : ℕ) → All (VariablesBelow n) old → All (VariablesBelow n) new

-- What elimination steps come to: following them is the elimination of a row. The definitions do not rest on this.
-- Source: Kennedy (1996), on unification in the free abelian group.
use Rattle.std.specs.Prelude.{◌≡◌, List}
use Rattle.um_units.specs.PowerMap.{PowerMap, replace, nth}
use Rattle.um_elim.specs.Elimination.{Solved, NoSolution, eliminate}
use Rattle.um_elim.specs.EliminationSteps.{IsSolvedBySteps, IsRefusedBySteps}

-- what solving a row makes of the slots' units is what the steps of the row make of them, with these units put for its
-- slots
abbrev pub SolvedRowsFollowSteps : Type 0
SolvedRowsFollowSteps =
    (us : List PowerMap) (row : PowerMap) (vs : List PowerMap) →
    eliminate us row ≡ Solved vs → IsSolvedBySteps us (replace (nth us) row) vs

-- and a row that has no solution is refused by its steps
abbrev pub RefusedRowsFollowSteps : Type 0
RefusedRowsFollowSteps =
    (us : List PowerMap) (row : PowerMap) → eliminate us row ≡ NoSolution → IsRefusedBySteps (replace (nth us) row)

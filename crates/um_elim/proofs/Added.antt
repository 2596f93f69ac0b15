-- What a row's elimination says of the solution that it leaves.
use Rattle.std.proofs.Common.{◌≡◌, true, false, length, Err}
use Rattle.um_units.specs.PowerMap.{PowerMap}
use Rattle.um_units.specs.Variables.{VariablesBelow}
use Rattle.um_elim.specs.declared.stop.ElimStop.{ElimStop}
use Rattle.um_elim.specs.declared.stop.ElimStop.TheVariants as stop
use Rattle.um_elim.specs.Elimination.{eliminate}
use Rattle.um_elim.specs.Adding.{IsAdded, HasInstances, SolvesRows}
use Rattle.um_elim.specs.Solution.{Solution}
use Rattle.um_elim.specs.Steps.{StopsAs}
use Rattle.um_elim.proofs.Rows.{refused_is_unsatisfiable, unsolvable-more}

pub stop-added : (old new : Solution) (row : PowerMap) (e : ElimStop) → old.spent ≡ false → new.spent ≡ true → StopsAs (eliminate old.units row) e → IsAdded old row new (Err e)
stop-added old new row stop.NoSolution a b g = (a, g, b)
stop-added old new row stop.Range a b g = (a, g, b)
stop-added old new row stop.Spent a b g = absurd g
stop-added old new row stop.NoMemory a b g = (a, b)

pub stop-instances : (old new : Solution) (row : PowerMap) (e : ElimStop) → VariablesBelow (length old.units) row → StopsAs (eliminate old.units row) e → HasInstances old row new (Err e)
stop-instances old new row stop.NoSolution h g = refused_is_unsatisfiable old.units row h g
stop-instances old new row stop.Range h g = tt
stop-instances old new row stop.Spent h g = tt
stop-instances old new row stop.NoMemory h g = tt

pub stop-rows : (old new : Solution) (row : PowerMap) (e : ElimStop) → VariablesBelow (length old.units) row → StopsAs (eliminate old.units row) e → SolvesRows old row new (Err e)
stop-rows old new row stop.NoSolution h g = λ rows exact. unsolvable-more (length old.units) rows row old.units exact (refused_is_unsatisfiable old.units row h g)
stop-rows old new row stop.Range h g = tt
stop-rows old new row stop.Spent h g = tt
stop-rows old new row stop.NoMemory h g = tt

-- The code's: what one step of it leaves, against the elimination.
-- Source: this project's own; no public clause rests on it.
use Rattle.std.specs.Prelude.{◌≡◌, ℕ, ◌<◌, List}
use Rattle.um_units.specs.PowerMap.{PowerMap}
use Rattle.um_units.specs.Variables.{VariablesBelow}
use Rattle.um_elim.specs.declared.step.AfterStep.{AfterStep}
use Rattle.um_elim.specs.declared.step.AfterStep.TheVariants.{Again, Ended}
use Rattle.um_elim.specs.declared.stop.ElimStop.{ElimStop}
use Rattle.um_elim.specs.declared.stop.ElimStop.TheVariants as stop
use Rattle.um_pivots.specs.Pivot.{pivot, least_power}
use Rattle.um_elim.specs.Elimination.{Elimination, Solved, NoSolution, Range, step_at}

-- whatever comes after it, the step has this result
abbrev pub StepGives : List PowerMap → PowerMap → ((List PowerMap → PowerMap → Elimination) → Elimination) → Type 0
StepGives old r result =
    (again : List PowerMap → PowerMap → Elimination) → step_at again old r (pivot r) ≡ result again

-- the step goes on with what is left of the unit, whose least power is lower, or ends with the new units
abbrev pub IsStep : List PowerMap → PowerMap → List PowerMap → AfterStep → Type 0
IsStep old r new (Again remainder) =
    StepGives old r (λ again. again new remainder) × (least_power remainder < least_power r)
IsStep old r new Ended = StepGives old r (λ again. Solved new)

abbrev pub StopsStep : List PowerMap → PowerMap → ElimStop → Type 0
StopsStep old r stop.NoSolution = StepGives old r (λ again. NoSolution)
StopsStep old r stop.Range = StepGives old r (λ again. Range)
StopsStep old r stop.Spent = ⊥
StopsStep old r stop.NoMemory = Unit {0}

-- why an elimination that gives this stops
abbrev pub StopsAs : Elimination → ElimStop → Type 0
StopsAs elimination stop.NoSolution = elimination ≡ NoSolution
StopsAs elimination stop.Range = elimination ≡ Range
StopsAs elimination stop.Spent = ⊥
StopsAs elimination stop.NoMemory = Unit {0}

-- the variables of what is left of the unit are below n
abbrev pub RemainderBelow : ℕ → AfterStep → Type 0
RemainderBelow n (Again remainder) = VariablesBelow n remainder
RemainderBelow n Ended = Unit {0}

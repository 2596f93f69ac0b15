-- Rows that are pushed for steps, or the first step that is out of range.
-- Source: this project's own; want of memory may come in place of every answer.
use Rattle.std.specs.Prelude.{◌≡◌, ℕ, List, ◌++◌, Option, Some, None, Result, MatchResult}
use Rattle.um_equal_types.specs.declared.row.Row.{Row}
use Rattle.um_equal_types.specs.declared.row.RowStop.{RowStop}
use Rattle.um_equal_types.specs.declared.row.RowStop.TheVariants as stop
use Rattle.um_equal_types.specs.Steps.{Step, rows_of, first_past}

-- no step is out of range, and the steps' rows follow the old ones
abbrev pub AreBehind : List Step → List Row → List Row → Type 0
AreBehind steps old new = (first_past steps ≡ None) × (new ≡ old ++ rows_of steps)

-- the stop is at the first step that is out of range
abbrev pub StopsPast : Option ℕ → RowStop → Type 0
StopsPast o stop.Slots = ⊥
StopsPast o (stop.Range at) = o ≡ Some at
StopsPast o stop.NoMemory = Unit {0}

-- the rows are pushed, or the first step that is out of range is named
abbrev pub ArePushed : List Step → List Row → List Row → Result (Unit {0}) RowStop → Type 0
ArePushed steps old new r = MatchResult r (λ _. AreBehind steps old new) (StopsPast (first_past steps))

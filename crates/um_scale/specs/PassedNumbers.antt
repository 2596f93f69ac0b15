-- The code's: what is answered when numbers are passed one by one. No public clause rests on it.
-- Source: this project's own.
use Rattle.std.specs.Prelude.{◌≡◌, ℕ, ◌+◌, List, length, None, Result, Ok, Err}
use Rattle.std.specs.List.{position_from}
use Rattle.um_frac.specs.declared.number.Frac.{Frac}
use Rattle.um_tree.specs.declared.note.UnitNote.{UnitNote}
use Rattle.um_scale.specs.declared.stop.ScaleStop.{ScaleStop}
use Rattle.um_scale.specs.RescaledInputs.{is_misfit}
use Rattle.um_scale.specs.Stops.{IsStopAt}

-- where the first number has this position: the position after the last one, or the stop at the first misfit
abbrev pub IsPassed : List Frac → List (Frac × UnitNote) → ℕ → Result ℕ ScaleStop → Type 0
IsPassed cs numbers from (Ok behind) =
    (position_from (is_misfit cs) from numbers ≡ None) × (behind ≡ from + length numbers)
IsPassed cs numbers from (Err stop) = IsStopAt (position_from (is_misfit cs) from numbers) stop

-- Why a call stopped: at the place of the first number that is out of range, unless memory ran out.
-- Source: this project's own.
use Rattle.std.specs.Prelude.{◌≡◌, ℕ, Option, Some}
use Rattle.um_scale.specs.declared.stop.ScaleStop.{ScaleStop}
use Rattle.um_scale.specs.declared.stop.ScaleStop.TheVariants.{Range, NoMemory}

abbrev pub IsStopAt : Option ℕ → ScaleStop → Type 0
IsStopAt place (Range at) = place ≡ Some at
IsStopAt place NoMemory = Unit {0}

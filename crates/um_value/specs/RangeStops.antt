-- Mirrors the code: what its refusal says of the place of the first unit text that stands for no unit.
-- Source: this project's own.
use Rattle.std.specs.Prelude.{◌≡◌, ℕ, Option, Some}
use Rattle.um_value.specs.declared.stop.InputStop.{InputStop}
use Rattle.um_value.specs.declared.stop.InputStop.TheVariants as stop

abbrev pub IsRangeAt : Option ℕ → InputStop → Type 0
IsRangeAt fault (stop.Text at) = ⊥
IsRangeAt fault (stop.Shape at) = ⊥
IsRangeAt fault (stop.Names at) = ⊥
IsRangeAt fault (stop.PowerRange at) = fault ≡ Some at
IsRangeAt fault stop.NoMemory = Unit {0}

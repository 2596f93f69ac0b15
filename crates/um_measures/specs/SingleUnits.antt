-- Mirrors the code: a unit text that is one name.
-- Source: this project's own.
use Rattle.std.specs.Prelude.{ℕ, Option, Some, None, Ok, Err}
use Rattle.um_units.specs.PowerMap.{PowerMap}
use Rattle.um_measures.specs.Faults.{unknown, Found}

-- what the name stands for, where it is known
abbrev pub known_unit : Option PowerMap → ℕ → Found PowerMap
known_unit None at = Err (unknown at)
known_unit (Some u) at = Ok u

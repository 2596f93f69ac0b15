-- Heights as they are counted beside trees: up to one above the greatest that is allowed (this project's own).
use Rattle.std.specs.Prelude.{ℕ, ◌+◌, min}
use Rattle.um_unit_texts.specs.UnitStops.{greatest_height}

abbrev pub counted : ℕ → ℕ
counted height = min height (greatest_height + 1)

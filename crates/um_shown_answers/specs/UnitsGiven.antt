-- Mirrors the code: the units that a word states in a program, or why it states none there.
-- Source: this project's own.
use Rattle.std.specs.Prelude.{ℕ, List, Result}
use Rattle.um_measures.specs.ClosedUnits.{given}
use Rattle.um_display.specs.declared.unit.DisplayUnit.{DisplayUnit}
use Rattle.um_display.specs.declared.unit.UnitsStop.{UnitsStop}
use Rattle.um_display.specs.UnitWords.{PartSyntax, IsUnitWord}
use Rattle.um_display.specs.DisplayUnits.{AreDisplayUnits}
use Rattle.um_front.specs.Stages.{CheckedTree}

abbrev pub AreUnitsOf : List ℕ → CheckedTree → Result (List DisplayUnit) UnitsStop → Type 0
AreUnitsOf word c answer =
    (parts : List PartSyntax) × IsUnitWord word parts
    × AreDisplayUnits (given c.text.program c.text.abbreviations) parts answer

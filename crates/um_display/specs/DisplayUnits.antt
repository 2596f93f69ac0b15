-- What the units of a word stand for in a program: its measures and abbreviations. A unit text without a variable has a
-- unit; part by part, the names of a part come before its range.
-- Source: the F# specification, chapter Units Of Measure; that abbreviations are replaced is this project's own.
use Rattle.std.specs.Prelude.{◌≡◌, ℕ, List, [], ◌∷◌, Option, Result, Ok, Err}
use Rattle.um_units.specs.PowerMap.{PowerMap}
use Rattle.um_measures.specs.Faults.{Fault, unknown, twice, wrong_count, hole, range, Found}
use Rattle.um_measures.specs.Known.{Known, measure_unit}
use Rattle.um_measures.specs.UnitNames.{resolved_unit}
use Rattle.um_display.specs.declared.unit.DisplayUnit.{DisplayUnit}
use Rattle.um_display.specs.declared.unit.UnitsStop.{UnitsStop}
use Rattle.um_display.specs.declared.unit.UnitsStop.TheVariants.{NoUnit, PowerRange, NoMemory}
use Rattle.um_display.specs.UnitWords.{PartSyntax}

-- of a unit text whose names aren't all known, or of which a part has a power out of range; it has no other fault
abbrev pub units_fault : Fault → UnitsStop
units_fault (range at) = PowerRange
units_fault (unknown at) = NoUnit
units_fault (twice at) = NoUnit
units_fault (wrong_count at) = NoUnit
units_fault (hole at) = NoUnit

abbrev pub unit_of_part : PartSyntax → Found PowerMap → Result DisplayUnit UnitsStop
unit_of_part part (Ok u) = Ok (record { label = part.label; size = part.size; unit = u })
unit_of_part part (Err fault) = Err (units_fault fault)

abbrev pub before_others : Result DisplayUnit UnitsStop → Result (List DisplayUnit) UnitsStop →
    Result (List DisplayUnit) UnitsStop
before_others (Err fault) others = Err fault
before_others (Ok unit) (Err fault) = Err fault
before_others (Ok unit) (Ok units) = Ok (unit ∷ units)

-- what measures stand for; no unit variable is known
module _ (measures : List ℕ → Option PowerMap) where
  abbrev pub part_unit : PartSyntax → Result DisplayUnit UnitsStop
  part_unit part = unit_of_part part (resolved_unit measures [] part.unit)

  -- the units of the parts in order, or the first fault
  abbrev pub part_units : List PartSyntax → Result (List DisplayUnit) UnitsStop
  part_units [] = Ok []
  part_units (part ∷ parts) = before_others (part_unit part) (part_units parts)

abbrev pub display_units : Known → List PartSyntax → Result (List DisplayUnit) UnitsStop
display_units known parts = part_units (measure_unit known) parts

-- what is answered: want of memory may come in place of each answer
abbrev pub IsStop : {A : Type 0} → Result A UnitsStop → UnitsStop → Type 0
IsStop found NoUnit = found ≡ Err NoUnit
IsStop found PowerRange = found ≡ Err PowerRange
IsStop found NoMemory = Unit {0}

abbrev pub IsOr : {A : Type 0} → Result A UnitsStop → Result A UnitsStop → Type 0
IsOr found (Ok units) = found ≡ Ok units
IsOr found (Err stop) = IsStop found stop

abbrev pub AreDisplayUnits : Known → List PartSyntax → Result (List DisplayUnit) UnitsStop → Type 0
AreDisplayUnits known parts answer = IsOr (display_units known parts) answer

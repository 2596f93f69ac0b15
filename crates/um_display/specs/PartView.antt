-- Mirrors the code: what its values stand for, and what its loops add.
-- Source: this project's own.
use Rattle.std.specs.Prelude.{◌≡◌, ℕ, ◌+◌, ◌&&◌, Bool, true, false, cond, List, [], ◌∷◌, ◌++◌, get_or, map}
use Rattle.std.specs.Prelude.{Result, Ok, Err}
use Rattle.um_tree.specs.RawTree.{unit_syntax}
use Rattle.um_measures.specs.declared.stop.NameStop.{NameStop}
use Rattle.um_measures.specs.declared.stop.NameStop.TheVariants as name_stop
use Rattle.um_display.specs.declared.part.Part.{Part}
use Rattle.um_display.specs.declared.word.Parts.{Parts}
use Rattle.um_display.specs.declared.unit.DisplayUnit.{DisplayUnit}
use Rattle.um_display.specs.declared.unit.DisplayUnits.{DisplayUnits}
use Rattle.um_display.specs.declared.unit.UnitsStop.{UnitsStop}
use Rattle.um_display.specs.declared.unit.UnitsStop.TheVariants.{NoUnit, PowerRange, NoMemory}
use Rattle.um_display.specs.UnitWords.{PartSyntax, IsPart, ArePartsOf, is_space_at}

-- ---- what values stand for

abbrev pub part_syntax : Part → PartSyntax
part_syntax part = record { label = part.label; size = part.size; unit = unit_syntax part.unit }

abbrev pub list_syntax : List Part → List PartSyntax
list_syntax parts = map part_syntax parts

abbrev pub parts_syntax : Parts → List PartSyntax
parts_syntax parts = list_syntax parts.items.items

abbrev pub units_answer : Result DisplayUnits UnitsStop → Result (List DisplayUnit) UnitsStop
units_answer (Ok units) = Ok units.items.items
units_answer (Err stop) = Err stop

-- why a unit text states no unit
abbrev pub units_stop : NameStop → UnitsStop
units_stop (name_stop.Range at) = PowerRange
units_stop (name_stop.Unknown at) = NoUnit
units_stop (name_stop.Twice at) = NoUnit
units_stop (name_stop.WrongCount at) = NoUnit
units_stop (name_stop.Hole at) = NoUnit
units_stop name_stop.NoMemory = NoMemory

-- ---- loops

-- the byte of this index, unless it is a space before another
abbrev pub kept_byte : List ℕ → ℕ → List ℕ
kept_byte bytes i = cond (is_space_at bytes i && is_space_at bytes (i + 1)) [] (get_or bytes i 0 ∷ [])

-- the text is one more part, or none
abbrev pub AddsPart : List PartSyntax → List PartSyntax → List ℕ → Bool → Type 0
AddsPart before after text true = (part : PartSyntax) × (after ≡ before ++ part ∷ []) × IsPart text part
AddsPart before after text false = (part : PartSyntax) → IsPart text part → ⊥

-- the texts are these parts more, or not all are parts
abbrev pub AddsParts : List PartSyntax → List PartSyntax → List (List ℕ) → Bool → Type 0
AddsParts before after texts true = (parts : List PartSyntax) × (after ≡ before ++ parts) × ArePartsOf texts parts
AddsParts before after texts false = (parts : List PartSyntax) → ArePartsOf texts parts → ⊥

-- What holds of all values that are printed with decimals, by the definitions alone.
use Rattle.std.specs.Prelude.{◌≡◌, ◌≤◌, ◌==◌, ℕ, IsTrue, Bool, false, All, List, length, None, Ok}
use Rattle.std.specs.List.{list_any}
use Rattle.std.specs.Str.{IsUtf8}
use Rattle.um_tree.specs.TypeTree.{TypeTree}
use Rattle.um_tree.specs.ProgramTree.{ProgramTree}
use Rattle.um_tree.specs.ValueTree.{ValueTree, without_units}
use Rattle.um_tree.specs.Shapes.{type_shape}
use Rattle.um_tree.specs.Formed.{IsTypeIn, IsFormed}
use Rattle.um_tree.specs.InputType.{InputHas}
use Rattle.um_elim.specs.Application.{type_fits}
use Rattle.um_measures.specs.declared.abbreviation.Abbreviation.{Abbreviation}
use Rattle.um_measures.specs.Known.{Known, measure_unit}
use Rattle.um_measures.specs.ClosedUnits.{given}
use Rattle.um_scaling.specs.FreeNumbers.{IsFreeZero}
use Rattle.um_show.specs.ValueText.{parts_fit}
use Rattle.um_display.specs.declared.unit.DisplayUnit.{DisplayUnit}
use Rattle.um_display.specs.UnitWords.{PartSyntax, IsPart}
use Rattle.um_display.specs.DisplayUnits.{display_units}
use Rattle.um_display.specs.DisplayText.{display_text}
use Rattle.um_value.specs.ValueSyntax.{ValueSyntax}
use Rattle.um_value.specs.ValueNames.{name_fault, range_fault, input_of}
use Rattle.um_value.specs.InputRead.{HasValueText}

-- some byte of the text is `~`
abbrev pub has_mark : List ℕ → Bool
has_mark text = list_any (λ b. b == 126) text

-- some text states the part, without a size of its own
abbrev pub IsWithoutSize : PartSyntax → Type 0
IsWithoutSize part = (text : List ℕ) × IsUtf8 text × IsPart text part × (part.size ≡ None)

-- a value of a program at a type: the type names what is declared there, and it and the types of the value's parts
-- have their powers in range; each number at a unit with a variable is 0
pub record IsShown (p : ProgramTree) (v : ValueTree) (t : TypeTree) : Type 0 where
  pub formed : IsFormed p
  pub variables : ℕ
  pub declared : IsTypeIn (length p.bases) variables p.records t
  pub stands : IsFreeZero p.records v t
  pub fits : IsTrue (type_fits t)
  pub parts_fit : IsTrue (parts_fit p v t)

-- the text is a value text of the type's shape, its units are known and in range, and its input stands at the type and
-- is the value
pub record IsReadAgain (known : Known) (t : TypeTree) (text : List ℕ) (v : ValueTree) : Type 0 where
  pub raw : ValueSyntax
  pub spelled : HasValueText known (type_shape t) text raw
  pub named : name_fault (measure_unit known) raw ≡ None
  pub in_range : range_fault (measure_unit known) raw ≡ None
  pub typed : InputHas known.program.records (input_of (measure_unit known) raw) t
  pub same : without_units (input_of (measure_unit known) raw) ≡ v

-- The text of a value with decimals in units without sizes of their own is read again as the value at its type, as the
-- text of an argument is, if no `~` stands in it.
abbrev pub DisplayIsReadBack : Type 0
DisplayIsReadBack =
    (p : ProgramTree) (shorts : List Abbreviation) (parts : List PartSyntax) (units : List DisplayUnit) (digits : ℕ)
    (v : ValueTree) (t : TypeTree) →
    All IsWithoutSize parts → display_units (given p shorts) parts ≡ Ok units → digits ≤ 18 → IsShown p v t →
    has_mark (display_text p digits units v t) ≡ false →
    IsReadAgain (given p shorts) t (display_text p digits units v t) v

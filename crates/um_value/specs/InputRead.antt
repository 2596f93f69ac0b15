-- What `read_value` answers: the input of a value text, or the first fault of its tokens, its shape, its names, its
-- ranges.
-- Source: this project's own.
use Rattle.std.specs.Prelude.{◌≡◌, ℕ, ◌≤◌, ◌⊎◌, List, length, Some, None, Result, Ok, Err}
use Rattle.std.specs.Str.{chars}
use Rattle.um_syntax.specs.declared.token.Token.{Token}
use Rattle.um_syntax.specs.declared.token.LexStop.TheVariants.{BadChar, NumberRange, PowerText}
use Rattle.um_syntax.specs.Lexing.{HasTokens, HasFault}
use Rattle.um_tree.specs.TypeTree.{ShapeTree}
use Rattle.um_tree.specs.ValueTree.{input_tree}
use Rattle.um_tree.specs.declared.value.Input.{Input}
use Rattle.um_measures.specs.Known.{Known, measure_unit}
use Rattle.um_unit_texts.specs.UnitStops.{greatest_height, place_of}
use Rattle.um_value.specs.declared.stop.InputStop.{InputStop}
use Rattle.um_value.specs.declared.stop.InputStop.TheVariants as stop
use Rattle.um_value.specs.ValueSyntax.{ValueSyntax}
use Rattle.um_value.specs.ValueGrammar.{IsValueText, value_height}
use Rattle.um_value.specs.ValueNames.{name_fault, range_fault, input_of}
use Rattle.um_value.specs.ValueStops.{StopsAtValue}

-- the characters have their fault at this place: no token stands there, or a number or a power breaks its rule
abbrev pub HasFaultAt : List ℕ → ℕ → Type 0
HasFaultAt cs at = HasFault cs (BadChar at) ⊎ (HasFault cs (NumberRange at) ⊎ HasFault cs (PowerText at))

-- the bytes are this value text of the shape
pub record HasValueText (known : Known) (s : ShapeTree) (text : List ℕ) (v : ValueSyntax) : Type 0 where
  pub tokens : List Token
  pub lexed : HasTokens (chars text) tokens
  pub is : IsValueText known.program.records s tokens v
  pub low : value_height v ≤ greatest_height

-- the text has tokens, and at this place they are no value text of the shape
pub record HasNoValueText (known : Known) (s : ShapeTree) (text : List ℕ) (at : ℕ) : Type 0 where
  pub tokens : List Token
  pub lexed : HasTokens (chars text) tokens
  pub k : ℕ
  pub place : at ≡ place_of tokens k (length text)
  pub stops : StopsAtValue known.program.records s tokens k

abbrev pub IsInputOf : Known → ShapeTree → List ℕ → Result Input InputStop → Type 0
IsInputOf known s text (Ok input) =
    (v : ValueSyntax) × HasValueText known s text v × (name_fault (measure_unit known) v ≡ None)
    × (range_fault (measure_unit known) v ≡ None) × (input_tree input ≡ input_of (measure_unit known) v)
IsInputOf known s text (Err (stop.Text at)) = HasFaultAt (chars text) at
IsInputOf known s text (Err (stop.Shape at)) = HasNoValueText known s text at
IsInputOf known s text (Err (stop.Names at)) =
    (v : ValueSyntax) × HasValueText known s text v × (name_fault (measure_unit known) v ≡ Some at)
IsInputOf known s text (Err (stop.PowerRange at)) =
    (v : ValueSyntax) × HasValueText known s text v × (name_fault (measure_unit known) v ≡ None)
    × (range_fault (measure_unit known) v ≡ Some at)
IsInputOf known s text (Err stop.NoMemory) = Unit {0}

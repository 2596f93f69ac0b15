-- Mirrors the code: what the parts of `read_value` answer.
-- Source: this project's own.
use Rattle.std.specs.Prelude.{◌≡◌, ℕ, ◌≤◌, ◌⊎◌, List, Option, Some, None, Result, Ok, Err}
use Rattle.std.specs.Str.{chars}
use Rattle.um_syntax.specs.declared.token.Token.{Token}
use Rattle.um_syntax.specs.Lexing.{HasTokens}
use Rattle.um_units.specs.PowerMap.{PowerMap}
use Rattle.um_tree.specs.TypeTree.{ShapeTree}
use Rattle.um_tree.specs.ProgramTree.{RecordTree}
use Rattle.um_tree.specs.ValueTree.{input_tree}
use Rattle.um_tree.specs.declared.value.Input.{Input}
use Rattle.um_reader.specs.Machine.{Machine}
use Rattle.um_reader.specs.RunTo.{RunAll}
use Rattle.um_reader.specs.declared.reading.ReadStop.TheVariants as read_stop
use Rattle.um_unit_texts.specs.UnitStops.{greatest_height, place_of}
use Rattle.um_value.specs.declared.raw.RawValue.{RawValue}
use Rattle.um_value.specs.declared.stop.InputStop.{InputStop}
use Rattle.um_value.specs.declared.stop.InputStop.TheVariants as stop
use Rattle.um_value.specs.ValueSyntax.{ValueSyntax, value_syntax}
use Rattle.um_value.specs.ValueGrammar.{IsValueText, value_height}
use Rattle.um_value.specs.ValueNames.{name_fault, range_fault, input_of}
use Rattle.um_value.specs.ValueStops.{StopsAtValue}
use Rattle.um_value.specs.InputRead.{HasFaultAt}

-- the tokens of the text
abbrev pub IsLexed : List ℕ → Result (List Token) InputStop → Type 0
IsLexed text (Ok tokens) = HasTokens (chars text) tokens
IsLexed text (Err (stop.Text at)) = HasFaultAt (chars text) at
IsLexed text (Err (stop.Shape at)) = ⊥
IsLexed text (Err (stop.Names at)) = ⊥
IsLexed text (Err (stop.PowerRange at)) = ⊥
IsLexed text (Err stop.NoMemory) = Unit {0}

-- what the loop over the tokens answers, by the states of the machine; a refusal has the place of its token
abbrev pub RunAt : {S : Type 0} → Machine S Token ValueSyntax → List Token → ℕ → Result RawValue InputStop → Type 0
RunAt m tokens end (Ok raw) = RunAll m greatest_height value_syntax tokens (Ok raw)
RunAt m tokens end (Err (stop.Text at)) = ⊥
RunAt m tokens end (Err (stop.Shape at)) =
    (k : ℕ) × (at ≡ place_of tokens k end)
    × (RunAll m greatest_height value_syntax tokens (Err (read_stop.Syntax k))
    ⊎ RunAll m greatest_height value_syntax tokens (Err (read_stop.High k)))
RunAt m tokens end (Err (stop.Names at)) = ⊥
RunAt m tokens end (Err (stop.PowerRange at)) = ⊥
RunAt m tokens end (Err stop.NoMemory) = Unit {0}

-- the value text of the tokens
abbrev pub IsRawOf : List RecordTree → ShapeTree → List Token → ℕ → Result RawValue InputStop → Type 0
IsRawOf records s tokens end (Ok raw) =
    IsValueText records s tokens (value_syntax raw) × (value_height (value_syntax raw) ≤ greatest_height)
IsRawOf records s tokens end (Err (stop.Text at)) = ⊥
IsRawOf records s tokens end (Err (stop.Shape at)) =
    (k : ℕ) × (at ≡ place_of tokens k end) × StopsAtValue records s tokens k
IsRawOf records s tokens end (Err (stop.Names at)) = ⊥
IsRawOf records s tokens end (Err (stop.PowerRange at)) = ⊥
IsRawOf records s tokens end (Err stop.NoMemory) = Unit {0}

-- the input of the value text
abbrev pub IsNamed : (List ℕ → Option PowerMap) → ValueSyntax → Result Input InputStop → Type 0
IsNamed measures v (Ok input) =
    (name_fault measures v ≡ None) × (range_fault measures v ≡ None) × (input_tree input ≡ input_of measures v)
IsNamed measures v (Err (stop.Text at)) = ⊥
IsNamed measures v (Err (stop.Shape at)) = ⊥
IsNamed measures v (Err (stop.Names at)) = name_fault measures v ≡ Some at
IsNamed measures v (Err (stop.PowerRange at)) =
    (name_fault measures v ≡ None) × (range_fault measures v ≡ Some at)
IsNamed measures v (Err stop.NoMemory) = Unit {0}

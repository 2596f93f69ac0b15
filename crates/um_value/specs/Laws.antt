-- What holds of the value texts of a shape, and of what `read_value` answers, by the definitions alone.
use Rattle.std.specs.Prelude.{◌≡◌, ℕ, List, Result, Ok, Err}
use Rattle.um_syntax.specs.declared.token.Token.{Token}
use Rattle.um_tree.specs.TypeTree.{ShapeTree}
use Rattle.um_tree.specs.ProgramTree.{ProgramTree}
use Rattle.um_tree.specs.Formed.{IsFormed}
use Rattle.um_tree.specs.ValueTree.{input_tree}
use Rattle.um_tree.specs.declared.value.Input.{Input}
use Rattle.um_reader.specs.Stops.{HasOneAnswer}
use Rattle.um_measures.specs.Known.{Known}
use Rattle.um_unit_texts.specs.UnitStops.{greatest_height}
use Rattle.um_value.specs.declared.stop.InputStop.{InputStop}
use Rattle.um_value.specs.declared.stop.InputStop.TheVariants as stop
use Rattle.um_value.specs.ValueGrammar.{IsValueText, IsShapeIn, value_height}
use Rattle.um_value.specs.InputRead.{IsInputOf}

-- no two answers on what the tokens are stand together, memory aside; no two value texts have the same tokens
abbrev pub ValueAnswersExclude : Type 0
ValueAnswersExclude =
    (p : ProgramTree) → IsFormed p → (s : ShapeTree) → IsShapeIn p.records s → (tokens : List Token)
    → HasOneAnswer (IsValueText p.records s) value_height greatest_height tokens

-- both answers are the same input, or the same refusal at the same place, but for want of memory
abbrev pub AreSameInput : Result Input InputStop → Result Input InputStop → Type 0
AreSameInput (Ok i) (Ok j) = input_tree i ≡ input_tree j
AreSameInput (Err stop.NoMemory) other = Unit {0}
AreSameInput one (Err stop.NoMemory) = Unit {0}
AreSameInput (Err e) (Err f) = e ≡ f
AreSameInput one other = ⊥

-- the text alone decides what `read_value` answers
abbrev pub InputsAreUnique : Type 0
InputsAreUnique =
    (known : Known) (s : ShapeTree) (text : List ℕ) (one other : Result Input InputStop) → IsFormed known.program
    → IsShapeIn known.program.records s → IsInputOf known s text one → IsInputOf known s text other
    → AreSameInput one other

-- Mirrors the code: what the parts of `read_call` answer.
-- Source: this project's own.
use Rattle.std.specs.Prelude.{◌≡◌, ◌≢◌, ℕ, List, [], ◌∷◌, ◌++◌, map, Result, Ok, Err}
use Rattle.um_tree.specs.TypeTree.{ShapeTree}
use Rattle.um_tree.specs.ValueTree.{InputTree, input_tree}
use Rattle.um_tree.specs.declared.value.Inputs.{Inputs}
use Rattle.um_measures.specs.Known.{Known}
use Rattle.um_value.specs.declared.stop.InputStop.{InputStop}
use Rattle.um_value.specs.declared.stop.InputStop.TheVariants as input_stop
use Rattle.um_value.specs.KnownNames.{known_in}
use Rattle.um_value.specs.InputRead.{IsInputOf}
use Rattle.um_infer.specs.declared.stop.CallStop.{CallStop}
use Rattle.um_infer.specs.declared.stop.CallStop.TheVariants as call_stop
use Rattle.um_run.specs.declared.call.CallRefusal.{CallRefusal}
use Rattle.um_run.specs.declared.known.Known.{Known as KnownParts}
use Rattle.um_run.specs.declared.call.CallRefusal.TheVariants as refusal
use Rattle.um_run.specs.Calls.{IsInput, AreInputs, IsFirstRefused}

-- the names that the texts of arguments may use
abbrev pub known_names : KnownParts → Known
known_names known = known_in known.names.now

-- the refusal of an argument; want of memory is none
abbrev pub IsArgumentRefused : ℕ → InputStop → CallRefusal → Type 0
IsArgumentRefused k stop (refusal.Argument index other) =
    (index ≡ k) × (other ≡ stop) × (stop ≢ input_stop.NoMemory)
IsArgumentRefused k stop refusal.NoMemory = stop ≡ input_stop.NoMemory
IsArgumentRefused k stop refusal.NoFunction = ⊥
IsArgumentRefused k stop refusal.WrongCount = ⊥
IsArgumentRefused k stop refusal.Units = ⊥
IsArgumentRefused k stop refusal.PowerRange = ⊥
IsArgumentRefused k stop refusal.Slots = ⊥

-- the input of the text stands after those before, or the text is refused
abbrev pub IsArgumentAdded :
    Known → ShapeTree → List ℕ → ℕ → List InputTree → List InputTree → Result (Unit {0}) CallRefusal → Type 0
IsArgumentAdded known s text k old new (Ok done) =
    (input : InputTree) × IsInput known s text input × (new ≡ old ++ input ∷ [])
IsArgumentAdded known s text k old new (Err (refusal.Argument index stop)) =
    (index ≡ k) × IsInputOf known s text (Err stop) × (stop ≢ input_stop.NoMemory)
IsArgumentAdded known s text k old new (Err refusal.NoMemory) = Unit {0}
IsArgumentAdded known s text k old new (Err refusal.NoFunction) = ⊥
IsArgumentAdded known s text k old new (Err refusal.WrongCount) = ⊥
IsArgumentAdded known s text k old new (Err refusal.Units) = ⊥
IsArgumentAdded known s text k old new (Err refusal.PowerRange) = ⊥
IsArgumentAdded known s text k old new (Err refusal.Slots) = ⊥

-- the inputs of the texts, or the first that is refused
abbrev pub AreArgumentsRead : Known → List ShapeTree → List (List ℕ) → Result Inputs CallRefusal → Type 0
AreArgumentsRead known shapes texts (Ok inputs) = AreInputs known shapes texts (map input_tree inputs.items.items)
AreArgumentsRead known shapes texts (Err (refusal.Argument index stop)) = IsFirstRefused known shapes texts index stop
AreArgumentsRead known shapes texts (Err refusal.NoMemory) = Unit {0}
AreArgumentsRead known shapes texts (Err refusal.NoFunction) = ⊥
AreArgumentsRead known shapes texts (Err refusal.WrongCount) = ⊥
AreArgumentsRead known shapes texts (Err refusal.Units) = ⊥
AreArgumentsRead known shapes texts (Err refusal.PowerRange) = ⊥
AreArgumentsRead known shapes texts (Err refusal.Slots) = ⊥

-- the refusal of a call that has no type
abbrev pub call_refusal : CallStop → CallRefusal
call_refusal call_stop.Units = refusal.Units
call_refusal call_stop.PowerRange = refusal.PowerRange
call_refusal call_stop.Slots = refusal.Slots
call_refusal call_stop.NoMemory = refusal.NoMemory

-- A call by its words: the name of a function, and a text for each argument.
-- Source: this project's own. Each refusal comes only where none before it does; want of memory may come in place of
-- every answer.
use Rattle.std.specs.Prelude.{◌≡◌, ◌≢◌, ℕ, All, List, [], ◌∷◌, length, map, take, slice_get, Some, None, Result}
use Rattle.std.specs.Prelude.{Ok, Err}
use Rattle.um_tree.specs.TypeTree.{TypeTree, type_tree, ShapeTree}
use Rattle.um_tree.specs.ValueTree.{ValueTree, InputTree, input_tree, inputs_in_order, without_units}
use Rattle.um_tree.specs.ProgramTree.{FunctionTree, ProgramTree, SchemeTree}
use Rattle.um_tree.specs.Shapes.{note_shape}
use Rattle.um_tree.specs.Formed.{IsUnitIn}
use Rattle.um_measures.specs.declared.abbreviation.Abbreviation.{Abbreviation}
use Rattle.um_measures.specs.Known.{Known, number_of, function_names, measure_unit}
use Rattle.um_measures.specs.ClosedUnits.{given}
use Rattle.um_value.specs.declared.stop.InputStop.{InputStop}
use Rattle.um_value.specs.declared.stop.InputStop.TheVariants as input_stop
use Rattle.um_value.specs.ValueSyntax.{ValueSyntax}
use Rattle.um_value.specs.ValueNames.{name_fault, range_fault, input_of}
use Rattle.um_value.specs.InputRead.{HasValueText, IsInputOf}
use Rattle.um_rows.specs.Judgement.{Judgement, has_scheme, too_many_slots, passes_range, has_no_typing}
use Rattle.um_infer.specs.CallJudgement.{judge_call}
use Rattle.um_run.specs.declared.call.Call.{Call}
use Rattle.um_run.specs.declared.call.CallRefusal.{CallRefusal}
use Rattle.um_run.specs.declared.call.CallRefusal.TheVariants as refusal

-- a call: the function's number, its inputs in order, and its type
pub record CallTree : Type 0 where
  pub function : ℕ
  pub inputs : List InputTree
  pub type : TypeTree

-- the values on which it runs
abbrev pub call_values : CallTree → List ValueTree
call_values call = map without_units call.inputs

-- the units of abbreviations are closed, and over the declared base units
abbrev pub AreClosedUnits : ℕ → List Abbreviation → Type 0
AreClosedUnits bases shorts = All (λ (short : Abbreviation). IsUnitIn bases 0 short.unit) shorts

-- ---- arguments

-- the text is this input of the shape
abbrev pub IsInput : Known → ShapeTree → List ℕ → InputTree → Type 0
IsInput known s text input =
    (v : ValueSyntax) × HasValueText known s text v × (name_fault (measure_unit known) v ≡ None)
    × (range_fault (measure_unit known) v ≡ None) × (input ≡ input_of (measure_unit known) v)

-- text by text, at shape by shape
abbrev pub AreInputs : Known → List ShapeTree → List (List ℕ) → List InputTree → Type 0
AreInputs known [] [] [] = Unit {0}
AreInputs known (s ∷ shapes) (text ∷ texts) (input ∷ inputs) =
    IsInput known s text input × AreInputs known shapes texts inputs
AreInputs known shapes texts inputs = ⊥

-- the texts before this number are inputs, and the text of this number is refused, for another cause than memory
pub record IsFirstRefused
    (known : Known) (shapes : List ShapeTree) (texts : List (List ℕ)) (k : ℕ) (stop : InputStop) : Type 0 where
  pub before : List InputTree
  pub read : AreInputs known (take k shapes) (take k texts) before
  pub shape : ShapeTree
  pub has_shape : slice_get shapes k ≡ Some shape
  pub text : List ℕ
  pub has_text : slice_get texts k ≡ Some text
  pub refused : IsInputOf known shape text (Err stop)
  pub cause : stop ≢ input_stop.NoMemory

-- ---- the call

abbrev pub parameter_shapes : FunctionTree → List ShapeTree
parameter_shapes f = map note_shape f.params

-- the function of this name, with its number
pub record IsNamed (p : ProgramTree) (name : List ℕ) (k : ℕ) (f : FunctionTree) : Type 0 where
  pub number : number_of (function_names p.functions) name ≡ Some k
  pub declared : slice_get p.functions k ≡ Some f

-- the call of function k on the inputs, or why it has no type, by what it is judged
abbrev pub IsJudgedCall : Judgement → ℕ → List InputTree → Result CallTree CallRefusal → Type 0
IsJudgedCall j k inputs (Ok call) =
    (s : SchemeTree) × (j ≡ has_scheme s)
    × (call ≡ record { function = k; inputs = inputs; type = s.signature.result })
IsJudgedCall j k inputs (Err refusal.NoFunction) = ⊥
IsJudgedCall j k inputs (Err refusal.WrongCount) = ⊥
IsJudgedCall j k inputs (Err (refusal.Argument index stop)) = ⊥
IsJudgedCall j k inputs (Err refusal.Units) = (row at : ℕ) × (j ≡ has_no_typing row at)
IsJudgedCall j k inputs (Err refusal.PowerRange) = (at : ℕ) × (j ≡ passes_range at)
IsJudgedCall j k inputs (Err refusal.Slots) = j ≡ too_many_slots
IsJudgedCall j k inputs (Err refusal.NoMemory) = Unit {0}

module _ (p : ProgramTree) (shorts : List Abbreviation) (schemes : List SchemeTree) where
  -- the call of function k, which is f, on the inputs that the texts are; or it takes another number of arguments, or
  -- an argument is refused
  abbrev pub IsCallTo : ℕ → FunctionTree → List (List ℕ) → Result CallTree CallRefusal → Type 0
  IsCallTo k f texts (Err refusal.NoFunction) = ⊥
  IsCallTo k f texts (Err refusal.WrongCount) = length texts ≢ length f.params
  IsCallTo k f texts (Err (refusal.Argument index stop)) =
      (length texts ≡ length f.params) × IsFirstRefused (given p shorts) (parameter_shapes f) texts index stop
  IsCallTo k f texts (Err refusal.NoMemory) = Unit {0}
  IsCallTo k f texts r =
      (inputs : List InputTree) × AreInputs (given p shorts) (parameter_shapes f) texts inputs
      × IsJudgedCall (judge_call p schemes k f (inputs_in_order inputs)) k inputs r

  -- the call of the function of this name, or no function has the name
  abbrev pub IsCallOf : List ℕ → List (List ℕ) → Result CallTree CallRefusal → Type 0
  IsCallOf name texts (Err refusal.NoFunction) = number_of (function_names p.functions) name ≡ None
  IsCallOf name texts (Err refusal.NoMemory) = Unit {0}
  IsCallOf name texts r = (k : ℕ) × (f : FunctionTree) × IsNamed p name k f × IsCallTo k f texts r

-- ---- what the code's answer stands for

abbrev pub call_tree : Call → CallTree
call_tree call =
    record { function = call.function; inputs = map input_tree call.inputs.items.items; type = type_tree call.ty }

abbrev pub call_answer : Result Call CallRefusal → Result CallTree CallRefusal
call_answer (Ok call) = Ok (call_tree call)
call_answer (Err stop) = Err stop

-- What calls by their words come to. The definitions do not rest on this.
-- Source: this project's own, on Kennedy (1996): the instances of a call's type are exactly its results.
use Rattle.std.specs.Prelude.{◌≡◌, ◌⊎◌, ℕ, List, length, Result, Ok, Err}
use Rattle.um_tree.specs.TypeTree.{TypeTree}
use Rattle.um_tree.specs.RawTree.{DeclSyntax}
use Rattle.um_tree.specs.ValueTree.{InputTree, inputs_in_order}
use Rattle.um_tree.specs.ProgramTree.{FunctionTree, ProgramTree, SchemeTree}
use Rattle.um_tree.specs.Formed.{IsFormed, AreFormedInputs}
use Rattle.um_tree.specs.InputType.{IsResultOfCall, IsTypeOfCall}
use Rattle.um_measures.specs.declared.abbreviation.Abbreviation.{Abbreviation}
use Rattle.um_measures.specs.ClosedUnits.{given}
use Rattle.um_names.specs.Resolution.{resolved_program, resolved_abbreviations}
use Rattle.um_rows.specs.Judgement.{too_many_slots, passes_range}
use Rattle.um_cells.specs.Arguments.{AreArgumentsOf}
use Rattle.um_infer.specs.Inference.{all_schemes, infer}
use Rattle.um_infer.specs.CallJudgement.{judge_call}
use Rattle.um_run.specs.declared.call.CallRefusal.{CallRefusal}
use Rattle.um_run.specs.declared.call.CallRefusal.TheVariants as refusal
use Rattle.um_run.specs.Calls.{CallTree, call_values, AreClosedUnits, AreInputs, parameter_shapes, IsNamed, IsCallOf}

-- the program is formed, these are the schemes of its functions, and the units of the abbreviations are closed
pub record AreKnown (p : ProgramTree) (shorts : List Abbreviation) (schemes : List SchemeTree) : Type 0 where
  pub formed : IsFormed p
  pub inferred : infer p ≡ all_schemes schemes
  pub closed : AreClosedUnits (length p.bases) shorts

-- it runs on values of the function's parameters, and its type is a type of the call
pub record IsTypedCall (p : ProgramTree) (call : CallTree) : Type 0 where
  pub arguments : AreArgumentsOf p call.function (call_values call)
  pub inputs : AreFormedInputs (length p.bases) (inputs_in_order call.inputs)
  pub type : IsTypeOfCall p call.function (inputs_in_order call.inputs) call.type

-- the arguments of a named function fit one of its typings, and the call passes no limit of slots or powers
pub record FitsTyping
    (p : ProgramTree) (shorts : List Abbreviation) (schemes : List SchemeTree) (name : List ℕ) (texts : List (List ℕ))
    : Type 0 where
  pub number : ℕ
  pub function : FunctionTree
  pub named : IsNamed p name number function
  pub inputs : List InputTree
  pub read : AreInputs (given p shorts) (parameter_shapes function) texts inputs
  pub result : TypeTree
  pub typed : IsResultOfCall p number (inputs_in_order inputs) result
  pub few : judge_call p schemes number function (inputs_in_order inputs) ≡ too_many_slots → ⊥
  pub in_range : (at : ℕ) → judge_call p schemes number function (inputs_in_order inputs) ≡ passes_range at → ⊥

module _ (p : ProgramTree) (shorts : List Abbreviation) (schemes : List SchemeTree) where
  -- the name is a function's, the texts are inputs of its parameters, and the call has no result
  abbrev pub HasNoResult : List ℕ → List (List ℕ) → Type 0
  HasNoResult name texts =
      (k : ℕ) × (f : FunctionTree) × IsNamed p name k f
      × ((inputs : List InputTree) × AreInputs (given p shorts) (parameter_shapes f) texts inputs
      × ((t : TypeTree) → IsResultOfCall p k (inputs_in_order inputs) t → ⊥))

-- a call is typed
abbrev pub CallsAreTyped : Type 0
CallsAreTyped =
    (p : ProgramTree) (shorts : List Abbreviation) (schemes : List SchemeTree) (name : List ℕ) (texts : List (List ℕ)) →
    AreKnown p shorts schemes → (call : CallTree) → IsCallOf p shorts schemes name texts (Ok call) → IsTypedCall p call

-- what is refused for units has no result
abbrev pub RefusedCallsHaveNoResult : Type 0
RefusedCallsHaveNoResult =
    (p : ProgramTree) (shorts : List Abbreviation) (schemes : List SchemeTree) (name : List ℕ) (texts : List (List ℕ)) →
    AreKnown p shorts schemes → IsCallOf p shorts schemes name texts (Err refusal.Units) →
    HasNoResult p shorts schemes name texts

-- where the arguments fit a typing there is a call
abbrev pub FittingCallsAreCalls : Type 0
FittingCallsAreCalls =
    (p : ProgramTree) (shorts : List Abbreviation) (schemes : List SchemeTree) (name : List ℕ) (texts : List (List ℕ)) →
    AreKnown p shorts schemes → (h : FitsTyping p shorts schemes name texts) →
    (t : TypeTree)
    × IsCallOf p shorts schemes name texts (Ok (record { function = h.number; inputs = h.inputs; type = t }))

-- no two answers but want of memory stand together
abbrev pub CallsAreUnique : Type 0
CallsAreUnique =
    (p : ProgramTree) (shorts : List Abbreviation) (schemes : List SchemeTree) (name : List ℕ) (texts : List (List ℕ)) →
    IsFormed p → (r q : Result CallTree CallRefusal) →
    IsCallOf p shorts schemes name texts r → IsCallOf p shorts schemes name texts q →
    (r ≡ q) ⊎ ((r ≡ Err refusal.NoMemory) ⊎ (q ≡ Err refusal.NoMemory))

-- the abbreviations of a text are over the base units of its program
abbrev pub AbbreviationsAreClosed : Type 0
AbbreviationsAreClosed =
    (ds : List DeclSyntax) (p : ProgramTree) (shorts : List Abbreviation) →
    resolved_program ds ≡ Ok p → resolved_abbreviations ds ≡ Ok shorts → AreClosedUnits (length p.bases) shorts

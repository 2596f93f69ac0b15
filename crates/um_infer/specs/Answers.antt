-- What the answers to a program and to a call say.
-- Source: this project's own, on Kennedy (1996): the instances of a function's scheme are exactly its typings.
use Rattle.std.specs.Prelude.{◌≡◌, ℕ, List, length, map, Some, slice_get, Result, Ok, Err}
use Rattle.um_tree.specs.declared.types.Ty.{Ty}
use Rattle.um_tree.specs.declared.program.Schemes.{Schemes}
use Rattle.um_tree.specs.TypeTree.{TypeTree, type_tree}
use Rattle.um_tree.specs.ValueTree.{InputTrees}
use Rattle.um_tree.specs.Formed.{IsFormed}
use Rattle.um_tree.specs.InputType.{IsResultOfCall, IsTypeOfCall}
use Rattle.um_tree.specs.ProgramTree.{FunctionTree, ProgramTree, SchemeTree, scheme_tree}
use Rattle.um_rows.specs.Judgement.{Judgement, has_scheme, too_many_slots, passes_range, has_no_typing}
use Rattle.um_infer.specs.declared.stop.InferStop.{InferStop}
use Rattle.um_infer.specs.declared.stop.InferStop.TheVariants as stop
use Rattle.um_infer.specs.declared.stop.CallStop.{CallStop}
use Rattle.um_infer.specs.declared.stop.CallStop.TheVariants as call_stop
use Rattle.um_infer.specs.Inference.{all_schemes, stops_at_slots, stops_at_range, stops_at_units}
use Rattle.um_infer.specs.Inference.{stops_at_not_general, infer_first}
use Rattle.um_infer.specs.Schemes.{ArePrincipal, IsFirstWithoutUnits, IsFirstNotGeneral, IsJudged}
use Rattle.um_infer.specs.CallJudgement.{judge_call}

-- the schemes as pure records, in order
abbrev pub scheme_trees : Schemes → List SchemeTree
scheme_trees schemes = map scheme_tree schemes.items.items

-- ---- a program

-- the schemes that the inference of its first n functions gives, or its stop
abbrev pub IsFirstInferred : ProgramTree → ℕ → Result Schemes InferStop → Type 0
IsFirstInferred p n (Ok schemes) = infer_first p n ≡ all_schemes (scheme_trees schemes)
IsFirstInferred p n (Err (stop.Units i at)) = (row : ℕ) × (infer_first p n ≡ stops_at_units i row at)
IsFirstInferred p n (Err (stop.NotGeneral i at)) = (row : ℕ) × (infer_first p n ≡ stops_at_not_general i row at)
IsFirstInferred p n (Err (stop.PowerRange i at)) = infer_first p n ≡ stops_at_range i at
IsFirstInferred p n (Err (stop.Slots i)) = infer_first p n ≡ stops_at_slots i
IsFirstInferred p n (Err stop.NoMemory) = Unit {0}

-- and that of all its functions
abbrev pub IsInferred : ProgramTree → Result Schemes InferStop → Type 0
IsInferred p r = IsFirstInferred p (length p.functions) r

-- what such an answer says of the program's typings: the schemes are principal, or the function is the first without a
-- typing, or it is the first that passes a limit
abbrev pub SaysOfTypings : ProgramTree → Result Schemes InferStop → Type 0
SaysOfTypings p (Ok schemes) = ArePrincipal p (length p.functions) (scheme_trees schemes)
SaysOfTypings p (Err (stop.Units i at)) = (row : ℕ) × IsFirstWithoutUnits p i row at
SaysOfTypings p (Err (stop.NotGeneral i at)) = (row : ℕ) × IsFirstNotGeneral p i row at
SaysOfTypings p (Err (stop.PowerRange i at)) = IsJudged p i (passes_range at)
SaysOfTypings p (Err (stop.Slots i)) = IsJudged p i too_many_slots
SaysOfTypings p (Err stop.NoMemory) = Unit {0}

abbrev pub InferredAnswersAreRight : Type 0
InferredAnswersAreRight =
    (p : ProgramTree) → IsFormed p → (r : Result Schemes InferStop) → IsInferred p r → SaysOfTypings p r

-- ---- the call of function k on the inputs, given the schemes of all functions

-- the result of the scheme that it is judged to have, or why it has none
abbrev pub CallAnswers : Judgement → Result Ty CallStop → Type 0
CallAnswers j (Ok ty) = (s : SchemeTree) × (j ≡ has_scheme s) × (type_tree ty ≡ s.signature.result)
CallAnswers j (Err call_stop.Units) = (row at : ℕ) × (j ≡ has_no_typing row at)
CallAnswers j (Err call_stop.PowerRange) = (at : ℕ) × (j ≡ passes_range at)
CallAnswers j (Err call_stop.Slots) = j ≡ too_many_slots
CallAnswers j (Err call_stop.NoMemory) = Unit {0}

abbrev pub IsCallTyped : ProgramTree → List SchemeTree → ℕ → InputTrees → Result Ty CallStop → Type 0
IsCallTyped p schemes k given r =
    (f : FunctionTree) → slice_get p.functions k ≡ Some f → CallAnswers (judge_call p schemes k f given) r

-- what such an answer says: the type is a type of the call, or the call has no result
abbrev pub SaysOfCall : ProgramTree → ℕ → InputTrees → Result Ty CallStop → Type 0
SaysOfCall p k given (Ok ty) = IsTypeOfCall p k given (type_tree ty)
SaysOfCall p k given (Err call_stop.Units) = (t : TypeTree) → IsResultOfCall p k given t → ⊥
SaysOfCall p k given (Err call_stop.PowerRange) = Unit {0}
SaysOfCall p k given (Err call_stop.Slots) = Unit {0}
SaysOfCall p k given (Err call_stop.NoMemory) = Unit {0}

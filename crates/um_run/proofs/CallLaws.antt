-- What calls come to: a call is typed, what is refused for units has no result, and where the arguments fit there is a call.
use Rattle.std.proofs.Common.{◌≡◌, ℕ, List, length, Some, slice_get, refl, sym, subst, Ok}
use Rattle.um_tree.specs.TypeTree.{TypeTree}
use Rattle.um_tree.specs.ValueTree.{InputTree, inputs_in_order}
use Rattle.um_tree.specs.ProgramTree.{FunctionTree, ProgramTree, SchemeTree}
use Rattle.um_tree.specs.Formed.{AreFormedInputs}
use Rattle.um_measures.specs.declared.abbreviation.Abbreviation.{Abbreviation}
use Rattle.um_measures.specs.ClosedUnits.{given}
use Rattle.um_rows.specs.Judgement.{Judgement, has_scheme, too_many_slots, passes_range, has_no_typing, not_general}
use Rattle.um_infer.specs.CallJudgement.{judge_call}
use Rattle.um_infer.proofs.CallTypes.{judged_call_types, judged_call_refusals, call_is_general}
use Rattle.um_run.specs.Calls.{AreInputs, parameter_shapes, IsCallOf}
use Rattle.um_run.specs.Laws.{AreKnown, IsTypedCall, FitsTyping, CallsAreTyped, RefusedCallsHaveNoResult, FittingCallsAreCalls}
use Rattle.um_run.proofs.Inputs.{values_have, inputs_formed}

module _ (p : ProgramTree) (shorts : List Abbreviation) (schemes : List SchemeTree) (known : AreKnown p shorts schemes) where
  formed_inputs : (f : FunctionTree) (texts : List (List ℕ)) (inputs : List InputTree) → AreInputs (given p shorts) (parameter_shapes f) texts inputs → AreFormedInputs (length p.bases) (inputs_in_order inputs)
  formed_inputs f texts inputs read = inputs_formed (given p shorts) known.closed (parameter_shapes f) texts inputs read

  typed_call : (k : ℕ) (f : FunctionTree) (texts : List (List ℕ)) (inputs : List InputTree) (s : SchemeTree) → slice_get p.functions k ≡ Some f → AreInputs (given p shorts) (parameter_shapes f) texts inputs
      → judge_call p schemes k f (inputs_in_order inputs) ≡ has_scheme s → IsTypedCall p (record { function = k; inputs = inputs; type = s.signature.result })
  typed_call k f texts inputs s declared read judged = record {
    arguments = (f, declared, values_have (given p shorts) (parameter_shapes f) texts inputs read);
    inputs = formed_inputs f texts inputs read;
    type = judged_call_types p schemes k f (inputs_in_order inputs) known.formed known.inferred declared (formed_inputs f texts inputs read) s judged;
  }

  -- there is a call, by what it is judged
  module _ (name : List ℕ) (texts : List (List ℕ)) (h : FitsTyping p shorts schemes name texts) where
    judged : (j : Judgement) → judge_call p schemes h.number h.function (inputs_in_order h.inputs) ≡ j
        → (t : TypeTree) × IsCallOf p shorts schemes name texts (Ok (record { function = h.number; inputs = h.inputs; type = t }))
    judged (has_scheme s) e = (s.signature.result, (h.number, h.function, h.named, (h.inputs, h.read, (s, e, refl))))
    judged too_many_slots e = absurd (h.few e)
    judged (passes_range at) e = absurd (h.in_range at e)
    judged (has_no_typing row at) e =
        absurd
        (judged_call_refusals p schemes h.number h.function (inputs_in_order h.inputs) known.formed known.inferred h.named.declared (formed_inputs h.function texts h.inputs h.read) row at e h.result h.typed)
    judged (not_general row at) e = absurd (call_is_general p schemes h.number h.function (inputs_in_order h.inputs) row at e)

pub calls_are_typed : CallsAreTyped
calls_are_typed p shorts schemes name texts known call (k, f, named, (inputs, read, (s, judged, same))) =
    subst (IsTypedCall p) (sym same) (typed_call p shorts schemes known k f texts inputs s named.declared read judged)

pub refused_calls_have_no_result : RefusedCallsHaveNoResult
refused_calls_have_no_result p shorts schemes name texts known (k, f, named, (inputs, read, (row, at, judged))) =
    (k, f, named, (inputs, read, λ t result. judged_call_refusals p schemes k f (inputs_in_order inputs) known.formed known.inferred named.declared (formed_inputs p shorts schemes known f texts inputs read) row at judged t result))

pub fitting_calls_are_calls : FittingCallsAreCalls
fitting_calls_are_calls p shorts schemes name texts known h = judged p shorts schemes known name texts h (judge_call p schemes h.number h.function (inputs_in_order h.inputs)) refl

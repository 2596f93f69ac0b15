-- What is answered to a call whose arguments fit a typing, and to one whose units fit none.
use Rattle.std.proofs.Common.{◌≡◌, ℕ, List, Option, Result, Err, refl, sym, ◌∙◌, inl, inr}
use Rattle.um_tree.specs.TypeTree.{TypeTree}
use Rattle.um_tree.specs.ValueTree.{inputs_in_order, OutcomeTree, value_outcome, trap_outcome, budget_outcome}
use Rattle.um_tree.specs.ProgramTree.{ProgramTree}
use Rattle.um_tree.specs.InputType.{IsResultOfCall}
use Rattle.um_tree.specs.Formed.{IsFormed}
use Rattle.um_rows.specs.Judgement.{Judgement, has_scheme, too_many_slots, passes_range, has_no_typing, not_general}
use Rattle.um_infer.specs.CallJudgement.{judge_call}
use Rattle.um_infer.proofs.CallTypes.{call_is_general}
use Rattle.um_run.specs.declared.call.CallRefusal.{CallRefusal}
use Rattle.um_run.specs.declared.call.CallRefusal.TheVariants as refusal
use Rattle.um_run.specs.Calls.{CallTree, IsCallOf}
use Rattle.um_run.proofs.CallLaws.{calls_are_typed, fitting_calls_are_calls}
use Rattle.um_scale.proofs.RescaledCalls.{type_is_result}
use Rattle.um_reports.specs.declared.status.Status.{Status}
use Rattle.um_front.specs.Stages.{CheckedTree, IsCheckedText}
use Rattle.um_front.proofs.CheckedTexts.{shaped_is_formed, checked_is_known}
use Rattle.um_front.proofs.StageLaws.{checked_given}
use Rattle.um_call_answers.specs.declared.way.Way.{Way}
use Rattle.um_call_answers.specs.AskedCall.{AskedCall}
use Rattle.um_call_answers.specs.CallAnswer.{CallAnswer, IsCallAnswer, RunAnswer, IsOutcomeReply}
use Rattle.um_call_answers.specs.OfCall.{IsAskedCall}
use Rattle.um_tool.specs.Asked.{called}
use Rattle.um_tool.specs.Answer.{Answer, ByOrder}
use Rattle.um_tool.specs.CallLaws.{IsMeantCall}
use Rattle.um_tool.specs.Headline.{FitsCall, FittingCallsAreMeant, HasInputs, IsUnitsOfArguments, UnitsOfArgumentsAreExact}
use Rattle.um_tool.proofs.CallsMeant.{run_meant, call_answer}
use Rattle.um_tool.proofs.CallStages.{call_stage, said_of_call, said_of_refusal}

module _ (way : Way) (asked : AskedCall) (bytes text : List ℕ) (status : Status) (c : CheckedTree) (is : IsCheckedText bytes c) where
  abbrev p : ProgramTree
  p = c.text.program

  abbrev IsOfWords : Result CallTree CallRefusal → Type 0
  IsOfWords r = IsCallOf p c.text.abbreviations c.schemes asked.name asked.texts r

  formed : IsFormed p
  formed = shaped_is_formed bytes c.text is.shaped

  -- ---- arguments that fit a typing
  fit_is_meant : FitsCall asked c → IsCallAnswer way asked c text status → IsMeantCall way asked bytes text status
  fit_is_meant fits answer =
      let fitting = fitting_calls_are_calls p c.text.abbreviations c.schemes asked.name asked.texts (checked_is_known bytes c is) fits in
      let call : CallTree = record { function = fits.number; inputs = fits.inputs; type = fitting.0 } in
      run_meant way asked bytes text status c is call fitting.1 (said_of_call asked c text status formed (RunAnswer way asked.budget) call fitting.1 (call_stage asked c text status way answer))

  -- ---- arguments whose units fit none
  outcome_has_other_line : (o : OutcomeTree) (t : TypeTree) (steps : Option ℕ) (q : ProgramTree) → IsOutcomeReply q t o steps text status → IsUnitsOfArguments text status → ⊥
  outcome_has_other_line (value_outcome v) t steps q (inl (fits, line)) reply = cc (sym line.1 ∙ reply.1)
  outcome_has_other_line (value_outcome v) t steps q (inr (unfit, line)) reply = cc (sym line.1 ∙ reply.1)
  outcome_has_other_line (trap_outcome why) t steps q line reply = cc (sym line.1 ∙ reply.1)
  outcome_has_other_line budget_outcome t steps q line reply = cc (sym line.1 ∙ reply.1)

  module _ (h : HasInputs asked c) where
    abbrev IsResult : TypeTree → Type 0
    IsResult t = IsResultOfCall p h.number (inputs_in_order h.inputs) t

    fits_with : (t : TypeTree) → IsResult t → FitsCall asked c
    fits_with t result = record {
      number = h.number;
      function = h.function;
      named = h.named;
      inputs = h.inputs;
      read = h.read;
      result = t;
      typed = result;
      few = h.few;
      in_range = h.in_range;
    }

    has_none : ((t : TypeTree) → IsResult t → ⊥) → (j : Judgement) → judge_call p c.schemes h.number h.function (inputs_in_order h.inputs) ≡ j → IsOfWords (Err refusal.Units)
    has_none none (has_scheme s) e =
        let call : CallTree = record { function = h.number; inputs = h.inputs; type = s.signature.result } in
        let named : IsAskedCall asked c call = (h.number, h.function, h.named, (h.inputs, h.read, (s, e, refl))) in
        let typed = calls_are_typed p c.text.abbreviations c.schemes asked.name asked.texts (checked_is_known bytes c is) call named in
        absurd (none call.type (type_is_result p h.number (inputs_in_order h.inputs) call.type typed.type))
    has_none none too_many_slots e = absurd (h.few e)
    has_none none (passes_range at) e = absurd (h.in_range at e)
    has_none none (has_no_typing row at) e = (h.number, h.function, h.named, (h.inputs, h.read, (row, at, e)))
    has_none none (not_general row at) e = absurd (call_is_general p c.schemes h.number h.function (inputs_in_order h.inputs) row at e)

    none_is_refused : ((t : TypeTree) → IsResult t → ⊥) → IsCallAnswer way asked c text status → IsUnitsOfArguments text status
    none_is_refused none answer =
        let here = has_none none (judge_call p c.schemes h.number h.function (inputs_in_order h.inputs)) refl in
        said_of_refusal asked c text status formed (RunAnswer way asked.budget) refusal.Units here (λ e. cc e) (call_stage asked c text status way answer)

    refused_has_none : IsCallAnswer way asked c text status → IsUnitsOfArguments text status → (t : TypeTree) → IsResult t → ⊥
    refused_has_none answer reply t result =
        let m = fit_is_meant (fits_with t result) answer in
        outcome_has_other_line m.outcome m.call.type m.steps m.checked.text.program m.printed reply

  given_call : CallAnswer way asked bytes text status → IsCallAnswer way asked c text status
  unfolding CallAnswer
  given_call answer = checked_given (IsCallAnswer way asked) bytes text status c is answer

pub fitting_calls_are_meant : FittingCallsAreMeant
unfolding Answer
fitting_calls_are_meant order w budget words bytes text status calls ordered (c, is, fits) answer =
    let given : ByOrder order words bytes text status = rw ordered at answer in
    let call = call_answer order w budget words bytes text status calls given in
    fit_is_meant w (called budget words) bytes text status c is fits (given_call w (called budget words) bytes text status c is call)

pub units_of_arguments_are_exact : UnitsOfArgumentsAreExact
unfolding Answer
units_of_arguments_are_exact order w budget words bytes text status calls ordered c is h answer =
    let given : ByOrder order words bytes text status = rw ordered at answer in
    let call = call_answer order w budget words bytes text status calls given in
    let asked = called budget words in
    let said = given_call w asked bytes text status c is call in (
      (λ reply t result. refused_has_none w asked bytes text status c is h said reply t result),
      (λ none. none_is_refused w asked bytes text status c is h none said),
    )

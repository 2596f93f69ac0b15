-- A call whose arguments fit a typing, and whose meaning gives a value that can be printed, is done.
use Rattle.std.proofs.Common.{◌≡◌, ℕ, List, Some, inl, inr, subst}
use Rattle.um_tree.specs.ValueTree.{value_outcome}
use Rattle.um_tree.specs.Meaning.{outcome_of_call}
use Rattle.um_run.specs.Calls.{CallTree, call_values}
use Rattle.um_run.proofs.CallLaws.{fitting_calls_are_calls}
use Rattle.um_reports.specs.declared.status.Status.{Status}
use Rattle.um_reports.specs.declared.status.Status.TheVariants.{Done}
use Rattle.um_front.specs.Stages.{CheckedTree, IsCheckedText}
use Rattle.um_front.proofs.CheckedTexts.{shaped_is_formed, checked_is_known}
use Rattle.um_front.proofs.StageLaws.{checked_given}
use Rattle.um_call_answers.specs.declared.way.Way.{Way}
use Rattle.um_call_answers.specs.AskedCall.{AskedCall}
use Rattle.um_call_answers.specs.CallAnswer.{CallAnswer, IsCallAnswer, RunAnswer, IsValueReply, IsOutcomeReply}
use Rattle.um_call_answers.specs.OfCall.{IsAskedCall}
use Rattle.um_call_answers.specs.Passing.{GivesValue}
use Rattle.um_call_answers.proofs.CallStage.{call_given}
use Rattle.um_call_answers.proofs.CallEnds.{ends_with_meant}

module _ (way : Way) (asked : AskedCall) (c : CheckedTree) (g : GivesValue asked c) (text : List ℕ) (status : Status) where
  run_done : (call : CallTree) → IsAskedCall asked c call → outcome_of_call c.text.program call.function (call_values call) asked.budget ≡ Some (value_outcome g.value) → RunAnswer way asked.budget c.text.program call text status → status ≡ Done
  unfolding RunAnswer
  run_done call named meant (o, steps, ended, reply) =
      let same = ends_with_meant asked.budget c.text.program call way o (value_outcome g.value) steps meant ended in
      printed (subst (λ e. IsOutcomeReply c.text.program call.type e steps text status) same reply)
    where
      printed : IsValueReply c.text.program call.type g.value steps text status → status ≡ Done
      printed (inl (fits, line)) = line.1
      printed (inr (unfit, line)) = absurd (unfit (g.in_range call named))

  pub call_goes_through : (bytes : List ℕ) → IsCheckedText bytes c → IsCallAnswer way asked c text status → status ≡ Done
  unfolding IsCallAnswer
  call_goes_through bytes is answer =
      let fitting = fitting_calls_are_calls c.text.program c.text.abbreviations c.schemes asked.name asked.texts (checked_is_known bytes c is) g.fits in
      let call : CallTree = record { function = g.fits.number; inputs = g.fits.inputs; type = fitting.0 } in
      run_done call fitting.1 g.gives
      (call_given (RunAnswer way asked.budget) asked c text status (shaped_is_formed bytes c.text is.shaped) call fitting.1 answer)

  pub call_done : (bytes : List ℕ) → IsCheckedText bytes c → CallAnswer way asked bytes text status → status ≡ Done
  unfolding CallAnswer
  call_done bytes is answer = call_goes_through bytes is (checked_given (IsCallAnswer way asked) bytes text status c is answer)

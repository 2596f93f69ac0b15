-- A call whose value can be displayed is done.
use Rattle.std.proofs.Common.{◌≡◌, ℕ, List, Some, inl, inr, sym, ap, subst, ◌∙◌}
use Rattle.std.specs.Prelude.{Result, Ok}
use Rattle.um_tree.specs.ValueTree.{value_outcome}
use Rattle.um_tree.specs.Meaning.{outcome_of_call}
use Rattle.um_measures.specs.ClosedUnits.{given}
use Rattle.um_display.specs.declared.unit.DisplayUnit.{DisplayUnit}
use Rattle.um_display.specs.declared.unit.UnitsStop.{UnitsStop}
use Rattle.um_display.specs.UnitWords.{PartSyntax}
use Rattle.um_display.specs.DisplayUnits.{display_units}
use Rattle.um_display.proofs.UniqueParts.{one_word}
use Rattle.um_run.specs.Calls.{CallTree, call_values}
use Rattle.um_run.proofs.CallLaws.{fitting_calls_are_calls}
use Rattle.um_reports.specs.declared.status.Status.{Status}
use Rattle.um_reports.specs.declared.status.Status.TheVariants.{Done}
use Rattle.um_front.specs.Stages.{CheckedTree, IsCheckedText}
use Rattle.um_front.proofs.CheckedTexts.{shaped_is_formed, checked_is_known}
use Rattle.um_front.proofs.StageLaws.{checked_given}
use Rattle.um_call_answers.specs.AskedCall.{AskedCall}
use Rattle.um_call_answers.specs.OfCall.{IsAskedCall}
use Rattle.um_call_answers.proofs.CallStage.{call_given}
use Rattle.um_shown_answers.specs.ShowAnswer.{ShowAnswer, IsShowAnswer, ByUnits, DisplayedRun, IsDisplayed, IsDisplayedEnd}
use Rattle.um_shown_answers.specs.Passing.{GivesDisplay}

module _ (digits : ℕ) (word : List ℕ) (asked : AskedCall) (c : CheckedTree) (g : GivesDisplay word asked c) (text : List ℕ) (status : Status) where
  run_done : (call : CallTree) → IsAskedCall asked c call → outcome_of_call c.text.program call.function (call_values call) asked.budget ≡ Some (value_outcome g.value.value)
      → DisplayedRun digits g.units asked.budget c.text.program call text status → status ≡ Done
  unfolding DisplayedRun
  run_done call named meant (o, ended, reply) =
      let both : Some o ≡ Some (value_outcome g.value.value) = sym ended ∙ meant in
      let same : o ≡ value_outcome g.value.value = cc both in
      printed (subst (λ e. IsDisplayedEnd digits g.units c.text.program call.type e text status) same reply)
    where
      printed : IsDisplayed digits g.units c.text.program call.type g.value.value text status → status ≡ Done
      printed (inl (fits, line)) = line.1
      printed (inr (unfit, line)) = absurd (unfit (g.value.in_range call named))

  show_goes_through : (bytes : List ℕ) → IsCheckedText bytes c → IsShowAnswer digits word asked c text status → status ≡ Done
  unfolding IsShowAnswer
  show_goes_through bytes is (parts, stated, answer) =
      let known = given c.text.program c.text.abbreviations in
      let same = one_word word parts g.parts stated g.stated in
      let resolved : display_units known parts ≡ Ok g.units = ap (λ (ps : List PartSyntax). display_units known ps) same ∙ g.resolved in
      let here : ByUnits digits asked c (Ok g.units) text status = subst (λ (r : Result (List DisplayUnit) UnitsStop). ByUnits digits asked c r text status) resolved answer in
      let fits = g.value.fits in
      let fitting = fitting_calls_are_calls c.text.program c.text.abbreviations c.schemes asked.name asked.texts (checked_is_known bytes c is) fits in
      let call : CallTree = record { function = fits.number; inputs = fits.inputs; type = fitting.0 } in
      run_done call fitting.1 g.value.gives
      (call_given (DisplayedRun digits g.units asked.budget) asked c text status (shaped_is_formed bytes c.text is.shaped) call fitting.1 here)

  pub show_done : (bytes : List ℕ) → IsCheckedText bytes c → ShowAnswer digits word asked bytes text status → status ≡ Done
  unfolding ShowAnswer
  show_done bytes is answer = show_goes_through bytes is (checked_given (IsShowAnswer digits word asked) bytes text status c is answer)

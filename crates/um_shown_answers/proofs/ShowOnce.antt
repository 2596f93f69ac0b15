-- The answer to a call whose value is displayed is one.
use Rattle.std.proofs.Common.{◌≡◌, ℕ, List, Some, inl, inr, sym, subst, ◌∙◌}
use Rattle.std.specs.Prelude.{Result, Ok, Err}
use Rattle.um_parse.specs.Laws.{AnswersAreUnique}
use Rattle.um_tree.specs.TypeTree.{TypeTree}
use Rattle.um_tree.specs.ValueTree.{OutcomeTree, value_outcome, trap_outcome, budget_outcome}
use Rattle.um_tree.specs.ProgramTree.{ProgramTree}
use Rattle.um_measures.specs.ClosedUnits.{given}
use Rattle.um_display.specs.declared.unit.DisplayUnit.{DisplayUnit}
use Rattle.um_display.specs.declared.unit.UnitsStop.{UnitsStop}
use Rattle.um_display.specs.declared.unit.UnitsStop.TheVariants.{NoUnit, PowerRange, NoMemory}
use Rattle.um_display.specs.UnitWords.{PartSyntax}
use Rattle.um_display.specs.DisplayUnits.{display_units}
use Rattle.um_display.proofs.UniqueParts.{one_word}
use Rattle.um_run.specs.Calls.{CallTree}
use Rattle.um_reports.specs.declared.status.Status.{Status}
use Rattle.um_front.specs.Stages.{CheckedTree, IsCheckedText}
use Rattle.um_front.proofs.CheckedTexts.{shaped_is_formed}
use Rattle.um_front.proofs.StageLaws.{checked_once}
use Rattle.um_call_answers.specs.AskedCall.{AskedCall}
use Rattle.um_call_answers.proofs.CallStage.{call_said_once}
use Rattle.um_shown_answers.specs.ShowAnswer.{ShowAnswer, IsShowAnswer, ByUnits, DisplayedRun, IsDisplayedEnd}

module _ (digits : ℕ) (text other : List ℕ) (status another : Status) where
  abbrev AreSame : Type 0
  AreSame = (text ≡ other) × (status ≡ another)

  one_end : (units : List DisplayUnit) (p : ProgramTree) (t : TypeTree) (o : OutcomeTree) → IsDisplayedEnd digits units p t o text status → IsDisplayedEnd digits units p t o other another → AreSame
  one_end units p t (value_outcome v) (inl (fits, a)) (inl (also, b)) = (a.0 ∙ sym b.0, a.1 ∙ sym b.1)
  one_end units p t (value_outcome v) (inl (fits, a)) (inr (unfit, b)) = absurd (unfit fits)
  one_end units p t (value_outcome v) (inr (unfit, a)) (inl (fits, b)) = absurd (unfit fits)
  one_end units p t (value_outcome v) (inr (unfit, a)) (inr (also, b)) = (a.0 ∙ sym b.0, a.1 ∙ sym b.1)
  one_end units p t (trap_outcome why) a b = (a.0 ∙ sym b.0, a.1 ∙ sym b.1)
  one_end units p t budget_outcome a b = (a.0 ∙ sym b.0, a.1 ∙ sym b.1)

  one_run : (units : List DisplayUnit) (budget : ℕ) (p : ProgramTree) (call : CallTree) → DisplayedRun digits units budget p call text status → DisplayedRun digits units budget p call other another → AreSame
  unfolding DisplayedRun
  one_run units budget p call (o, meant, a) (e, also, b) =
      let both : Some o ≡ Some e = sym meant ∙ also in let same : o ≡ e = cc both in
      one_end units p call.type e (subst (λ x. IsDisplayedEnd digits units p call.type x text status) same a) b

  one_of_units : (asked : AskedCall) (bytes : List ℕ) (c : CheckedTree) → IsCheckedText bytes c → (r : Result (List DisplayUnit) UnitsStop) → ByUnits digits asked c r text status → ByUnits digits asked c r other another → AreSame
  one_of_units asked bytes c is (Ok units) a b =
      call_said_once (DisplayedRun digits units asked.budget) asked c text status (shaped_is_formed bytes c.text is.shaped) other another
      (λ call. one_run units asked.budget c.text.program call) a b
  one_of_units asked bytes c is (Err NoUnit) a b = (a.0 ∙ sym b.0, a.1 ∙ sym b.1)
  one_of_units asked bytes c is (Err PowerRange) a b = (a.0 ∙ sym b.0, a.1 ∙ sym b.1)
  one_of_units asked bytes c is (Err NoMemory) a b = absurd a

  one_show : (word : List ℕ) (asked : AskedCall) (bytes : List ℕ) (c : CheckedTree) → IsCheckedText bytes c → IsShowAnswer digits word asked c text status → IsShowAnswer digits word asked c other another → AreSame
  unfolding IsShowAnswer
  one_show word asked bytes c is (parts, stated, a) (others, also, b) =
      let known = given c.text.program c.text.abbreviations in
      let same = one_word word parts others stated also in
      one_of_units asked bytes c is (display_units known others)
      (subst (λ (ps : List PartSyntax). ByUnits digits asked c (display_units known ps) text status) same a) b

  pub ShowAnswer-once : (word : List ℕ) (asked : AskedCall) (bytes : List ℕ) → AnswersAreUnique → ShowAnswer digits word asked bytes text status → ShowAnswer digits word asked bytes other another → AreSame
  unfolding ShowAnswer
  ShowAnswer-once word asked bytes one a b =
      checked_once (IsShowAnswer digits word asked) bytes text status other another one (one_show word asked bytes) a b

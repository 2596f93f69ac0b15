-- No answer to a call whose value is displayed has the status of a fault.
use Rattle.std.proofs.Common.{ℕ, List, IsTrue, refl, inl, inr}
use Rattle.std.specs.Prelude.{Result, Ok, Err}
use Rattle.um_tree.specs.TypeTree.{TypeTree}
use Rattle.um_tree.specs.ValueTree.{OutcomeTree, value_outcome, trap_outcome, budget_outcome}
use Rattle.um_tree.specs.ProgramTree.{ProgramTree}
use Rattle.um_measures.specs.ClosedUnits.{given}
use Rattle.um_display.specs.declared.unit.DisplayUnit.{DisplayUnit}
use Rattle.um_display.specs.declared.unit.UnitsStop.{UnitsStop}
use Rattle.um_display.specs.declared.unit.UnitsStop.TheVariants.{NoUnit, PowerRange, NoMemory}
use Rattle.um_display.specs.DisplayUnits.{display_units}
use Rattle.um_run.specs.Calls.{CallTree}
use Rattle.um_reports.specs.declared.status.Status.{Status}
use Rattle.um_reports.proofs.ReportStatuses.{is_answered}
use Rattle.um_front.specs.Stages.{CheckedTree}
use Rattle.um_front.proofs.StageLaws.{checked_answered}
use Rattle.um_call_answers.specs.AskedCall.{AskedCall}
use Rattle.um_call_answers.proofs.CallStage.{call_answered}
use Rattle.um_shown_answers.specs.ShowAnswer.{ShowAnswer, IsShowAnswer, ByUnits, DisplayedRun, IsDisplayedEnd}

module _ (digits : ℕ) (text : List ℕ) (status : Status) where
  end_status : (units : List DisplayUnit) (p : ProgramTree) (t : TypeTree) (o : OutcomeTree) → IsDisplayedEnd digits units p t o text status → IsTrue (is_answered status)
  end_status units p t (value_outcome v) (inl (fits, reply)) = rw reply.1 refl
  end_status units p t (value_outcome v) (inr (unfit, reply)) = rw reply.1 refl
  end_status units p t (trap_outcome why) reply = rw reply.1 refl
  end_status units p t budget_outcome reply = rw reply.1 refl

  run_status : (units : List DisplayUnit) (budget : ℕ) (p : ProgramTree) (call : CallTree) → DisplayedRun digits units budget p call text status → IsTrue (is_answered status)
  unfolding DisplayedRun
  run_status units budget p call (o, meant, reply) = end_status units p call.type o reply

  units_status : (asked : AskedCall) (c : CheckedTree) (r : Result (List DisplayUnit) UnitsStop) → ByUnits digits asked c r text status → IsTrue (is_answered status)
  units_status asked c (Ok units) answer =
      call_answered (DisplayedRun digits units asked.budget) asked c text status (λ call. run_status units asked.budget c.text.program call) answer
  units_status asked c (Err NoUnit) reply = rw reply.1 refl
  units_status asked c (Err PowerRange) reply = rw reply.1 refl
  units_status asked c (Err NoMemory) none = absurd none

  show_status : (word : List ℕ) (asked : AskedCall) (c : CheckedTree) → IsShowAnswer digits word asked c text status → IsTrue (is_answered status)
  unfolding IsShowAnswer
  show_status word asked c (parts, stated, answer) = units_status asked c (display_units (given c.text.program c.text.abbreviations) parts) answer

  pub ShowAnswer-status : (word : List ℕ) (asked : AskedCall) (bytes : List ℕ) → ShowAnswer digits word asked bytes text status → IsTrue (is_answered status)
  unfolding ShowAnswer
  ShowAnswer-status word asked bytes answer = checked_answered (IsShowAnswer digits word asked) bytes text status (λ c. show_status word asked c) answer

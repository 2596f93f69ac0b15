-- The answer to `trace`: it is one, it has the status of no fault, and when it is done.
use Rattle.std.proofs.Common.{◌≡◌, ℕ, zero, suc, List, IsTrue, Some, None, refl, inl, inr, sym, ap, subst, ◌∙◌}
use Rattle.um_parse.specs.Laws.{AnswersAreUnique}
use Rattle.um_tree.specs.ValueTree.{OutcomeTree, value_outcome, trap_outcome, budget_outcome}
use Rattle.um_tree.specs.ProgramTree.{ProgramTree}
use Rattle.um_tree.specs.Meaning.{Stop, trap, budget_end, outcome_of_call}
use Rattle.um_eval.specs.Laws.{TracesAreUnique}
use Rattle.um_run.specs.Calls.{CallTree, call_values}
use Rattle.um_run.proofs.CallLaws.{fitting_calls_are_calls}
use Rattle.um_reports.specs.declared.status.Status.{Status}
use Rattle.um_reports.specs.declared.status.Status.TheVariants.{Done}
use Rattle.um_reports.proofs.ReportStatuses.{is_answered}
use Rattle.um_front.specs.Stages.{CheckedTree, IsCheckedText}
use Rattle.um_front.proofs.CheckedTexts.{shaped_is_formed, checked_is_known}
use Rattle.um_front.proofs.StageLaws.{checked_given, checked_answered, checked_once}
use Rattle.um_call_answers.specs.AskedCall.{AskedCall}
use Rattle.um_call_answers.specs.OfCall.{IsAskedCall}
use Rattle.um_call_answers.proofs.CallStage.{call_answered, call_given, call_said_once}
use Rattle.um_call_answers.proofs.UniqueReplies.{one_outcome_reply}
use Rattle.um_shown_answers.specs.TraceText.{trace_text}
use Rattle.um_shown_answers.specs.TraceAnswer.{IsStopTold, IsTracedEnd, TracedRun, IsTraceAnswer, TraceAnswer}
use Rattle.um_shown_answers.specs.Laws.{CanBeTraced}

-- ---- the status

module _ (budget : ℕ) (bytes : List ℕ) (p : ProgramTree) (call : CallTree) (text : List ℕ) (status : Status) where
  told_done : (n : ℕ) (why : Stop) → IsStopTold n bytes p call why text status → status ≡ Done
  told_done zero why reply = reply.1
  told_done (suc n) why (t, stopped, same, reply) = reply.1

  told_status : (why : Stop) → IsStopTold budget bytes p call why text status → IsTrue (is_answered status)
  told_status why told = rw (told_done budget why told) refl

  end_status : (o : OutcomeTree) → IsTracedEnd budget bytes p call o text status → IsTrue (is_answered status)
  end_status (value_outcome v) (inl (fits, reply)) = rw reply.1 refl
  end_status (value_outcome v) (inr (unfit, reply)) = rw reply.1 refl
  end_status (trap_outcome why) told = told_status (trap why) told
  end_status budget_outcome told = told_status budget_end told

  run_status : TracedRun bytes budget p call text status → IsTrue (is_answered status)
  unfolding TracedRun
  run_status (o, meant, end) = end_status o end

module _ (asked : AskedCall) (bytes text : List ℕ) (status : Status) where
  traced_status : (c : CheckedTree) → IsTraceAnswer asked bytes c text status → IsTrue (is_answered status)
  unfolding IsTraceAnswer
  traced_status c answer =
      call_answered (TracedRun bytes asked.budget) asked c text status (λ call. run_status asked.budget bytes c.text.program call text status) answer

  pub TraceAnswer-status : TraceAnswer asked bytes text status → IsTrue (is_answered status)
  unfolding TraceAnswer
  TraceAnswer-status answer = checked_answered (IsTraceAnswer asked bytes) bytes text status traced_status answer

-- ---- one answer

module _ (unique : TracesAreUnique) (text other : List ℕ) (status another : Status) where
  abbrev AreSame : Type 0
  AreSame = (text ≡ other) × (status ≡ another)

  one_told : (n : ℕ) (bytes : List ℕ) (p : ProgramTree) (call : CallTree) (why : Stop) → IsStopTold n bytes p call why text status → IsStopTold n bytes p call why other another → AreSame
  one_told zero bytes p call why a b = (a.0 ∙ sym b.0, a.1 ∙ sym b.1)
  one_told (suc n) bytes p call why (t, stopped, same, a) (u, also, too, b) =
      let one = unique p.functions call.function (call_values call) (suc n) t u stopped also in
      (a.0 ∙ ap (trace_text p.functions bytes) one ∙ sym b.0, a.1 ∙ sym b.1)

  one_end : (budget : ℕ) (bytes : List ℕ) (p : ProgramTree) (call : CallTree) (o : OutcomeTree) → IsTracedEnd budget bytes p call o text status → IsTracedEnd budget bytes p call o other another → AreSame
  one_end budget bytes p call (value_outcome v) a b = one_outcome_reply text other status another p call.type (value_outcome v) None a b
  one_end budget bytes p call (trap_outcome why) a b = one_told budget bytes p call (trap why) a b
  one_end budget bytes p call budget_outcome a b = one_told budget bytes p call budget_end a b

  one_run : (budget : ℕ) (bytes : List ℕ) (p : ProgramTree) (call : CallTree) → TracedRun bytes budget p call text status → TracedRun bytes budget p call other another → AreSame
  unfolding TracedRun
  one_run budget bytes p call (o, meant, a) (e, also, b) =
      let both : Some o ≡ Some e = sym meant ∙ also in
      let same : o ≡ e = cc both in
      one_end budget bytes p call e (subst (λ x. IsTracedEnd budget bytes p call x text status) same a) b

  one_traced : (asked : AskedCall) (bytes : List ℕ) (c : CheckedTree) → IsCheckedText bytes c → IsTraceAnswer asked bytes c text status → IsTraceAnswer asked bytes c other another → AreSame
  unfolding IsTraceAnswer
  one_traced asked bytes c is a b =
      call_said_once (TracedRun bytes asked.budget) asked c text status (shaped_is_formed bytes c.text is.shaped) other another (one_run asked.budget bytes c.text.program) a b

  pub trace_once : AnswersAreUnique → (asked : AskedCall) (bytes : List ℕ) → TraceAnswer asked bytes text status → TraceAnswer asked bytes other another → AreSame
  unfolding TraceAnswer
  trace_once one asked bytes a b = checked_once (IsTraceAnswer asked bytes) bytes text status other another one (one_traced asked bytes) a b

-- ---- done

module _ (asked : AskedCall) (c : CheckedTree) (can : CanBeTraced asked c) (bytes text : List ℕ) (status : Status) (is : IsCheckedText bytes c) where
  abbrev fitting : CallTree
  fitting =
      let call = fitting_calls_are_calls c.text.program c.text.abbreviations c.schemes asked.name asked.texts (checked_is_known bytes c is) can.fits in
      record { function = can.fits.number; inputs = can.fits.inputs; type = call.0 }

  named : IsAskedCall asked c fitting
  named = (fitting_calls_are_calls c.text.program c.text.abbreviations c.schemes asked.name asked.texts (checked_is_known bytes c is) can.fits).1

  end_done : (o : OutcomeTree) → outcome_of_call c.text.program fitting.function (call_values fitting) asked.budget ≡ Some o → IsTracedEnd asked.budget bytes c.text.program fitting o text status → status ≡ Done
  end_done (value_outcome v) meant (inl (fits, reply)) = reply.1
  end_done (value_outcome v) meant (inr (unfit, reply)) = absurd (unfit (can.in_range v fitting named meant))
  end_done (trap_outcome why) meant told = told_done asked.budget bytes c.text.program fitting text status asked.budget (trap why) told
  end_done budget_outcome meant told = told_done asked.budget bytes c.text.program fitting text status asked.budget budget_end told

  run_done : TracedRun bytes asked.budget c.text.program fitting text status → status ≡ Done
  unfolding TracedRun
  run_done (o, meant, end) = end_done o meant end

  traced_done : IsTraceAnswer asked bytes c text status → status ≡ Done
  unfolding IsTraceAnswer
  traced_done answer =
      run_done (call_given (TracedRun bytes asked.budget) asked c text status (shaped_is_formed bytes c.text is.shaped) fitting named answer)

  pub trace_done : TraceAnswer asked bytes text status → status ≡ Done
  unfolding TraceAnswer
  trace_done answer = traced_done (checked_given (IsTraceAnswer asked bytes) bytes text status c is answer)

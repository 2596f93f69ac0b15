-- The answer to `trace` follows that of `run`.
use Rattle.std.proofs.Common.{◌≡◌, ℕ, zero, suc, List, ◌++◌, None, refl, inl, inr, sym, ap, subst, ◌∙◌}
use Rattle.std.specs.Prelude.{Option, codes}
use Rattle.um_parse.specs.Laws.{AnswersAreUnique}
use Rattle.um_frac.specs.declared.number.Trap.{Trap}
use Rattle.um_frac.specs.declared.number.Trap.TheVariants as trap_of
use Rattle.um_tree.specs.ValueTree.{OutcomeTree, value_outcome, trap_outcome, budget_outcome}
use Rattle.um_tree.specs.ProgramTree.{ProgramTree}
use Rattle.um_tree.specs.Meaning.{Stop, trap, budget_end}
use Rattle.um_run.specs.Calls.{CallTree}
use Rattle.um_reports.specs.declared.status.Status.{Status}
use Rattle.um_reports.specs.declared.status.Status.TheVariants.{Done}
use Rattle.um_reports.specs.CallRefusals.{trap_line}
use Rattle.um_reports.specs.Steps.{line}
use Rattle.um_front.specs.Stages.{CheckedTree, IsCheckedText}
use Rattle.um_front.proofs.CheckedTexts.{shaped_is_formed}
use Rattle.um_front.proofs.StageLaws.{checked_given}
use Rattle.um_call_answers.specs.declared.way.Way.TheVariants as way
use Rattle.um_call_answers.specs.AskedCall.{AskedCall}
use Rattle.um_call_answers.specs.CallAnswer.{CallAnswer, IsCallAnswer, RunAnswer, IsOutcomeReply}
use Rattle.um_call_answers.proofs.CallStage.{call_given}
use Rattle.um_call_answers.proofs.CallEnds.{ends_with_meant}
use Rattle.um_call_answers.proofs.UniqueReplies.{one_outcome_reply, call_once, call_one}
use Rattle.um_shown_answers.specs.TraceText.{stop_label, where_text}
use Rattle.um_shown_answers.specs.TraceAnswer.{IsStopTold, IsTracedEnd, TracedRun, IsTraceAnswer, TraceAnswer}
use Rattle.um_shown_answers.specs.Laws.{Follows}

trap_told : (why : Trap) → trap_line why ≡ line (stop_label (trap why))
trap_told trap_of.Overflow = refl
trap_told trap_of.DivZero = refl

module _ (text run_text : List ℕ) (status ended : Status) where
  -- the text begins with what `run` says of the stop
  begins : (n : ℕ) (bytes : List ℕ) (p : ProgramTree) (call : CallTree) (why : Stop) → IsStopTold n bytes p call why text status → (rest : List ℕ) × (text ≡ stop_label why ++ rest)
  begins zero bytes p call why reply = (codes "\n", reply.0)
  begins (suc n) bytes p call why (t, stopped, same, reply) = (
    where_text p.functions bytes t.node t.operands t.calls,
    reply.0 ∙ ap (λ w. stop_label w ++ where_text p.functions bytes t.node t.operands t.calls) same,
  )

  told_status : (n : ℕ) (bytes : List ℕ) (p : ProgramTree) (call : CallTree) (why : Stop) → IsStopTold n bytes p call why text status → status ≡ Done
  told_status zero bytes p call why reply = reply.1
  told_status (suc n) bytes p call why (t, stopped, same, reply) = reply.1

  end_follows : (budget : ℕ) (bytes : List ℕ) (p : ProgramTree) (call : CallTree) (o : OutcomeTree) → IsTracedEnd budget bytes p call o text status → IsOutcomeReply p call.type o None run_text ended → Follows text status run_text ended
  end_follows budget bytes p call (value_outcome v) a b = inl (one_outcome_reply text run_text status ended p call.type (value_outcome v) None a b)
  end_follows budget bytes p call (trap_outcome why) a b =
      let (rest, is) = begins budget bytes p call (trap why) a in
      inr (told_status budget bytes p call (trap why) a, inl b.1, stop_label (trap why), rest, b.0 ∙ trap_told why, is)
  end_follows budget bytes p call budget_outcome a b =
      let (rest, is) = begins budget bytes p call budget_end a in
      inr (told_status budget bytes p call budget_end a, inr b.1, stop_label budget_end, rest, b.0, is)

  run_follows : (budget : ℕ) (bytes : List ℕ) (p : ProgramTree) (call : CallTree) → TracedRun bytes budget p call text status → RunAnswer way.Code budget p call run_text ended → Follows text status run_text ended
  unfolding TracedRun RunAnswer
  run_follows budget bytes p call (o, meant, a) (e, steps, (by, none), b) =
      let same = ends_with_meant budget p call way.Code e o steps meant (by, none) in
      end_follows budget bytes p call e (subst (λ x. IsTracedEnd budget bytes p call x text status) (sym same) a)
      (subst (λ (n : Option ℕ). IsOutcomeReply p call.type e n run_text ended) none b)

  call_follows : (asked : AskedCall) (bytes : List ℕ) (c : CheckedTree) → IsCheckedText bytes c → IsTraceAnswer asked bytes c text status → IsCallAnswer way.Code asked c run_text ended → Follows text status run_text ended
  unfolding IsTraceAnswer IsCallAnswer
  call_follows asked bytes c is (inl (call, named, says)) b =
      run_follows asked.budget bytes c.text.program call says
      (call_given (RunAnswer way.Code asked.budget) asked c run_text ended (shaped_is_formed bytes c.text is.shaped) call named b)
  call_follows asked bytes c is (inr refused) b = inl (call_once text run_text status ended way.Code asked bytes c is (inr refused) b)

  pub trace_follows : AnswersAreUnique → (asked : AskedCall) (bytes : List ℕ) → TraceAnswer asked bytes text status → CallAnswer way.Code asked bytes run_text ended → Follows text status run_text ended
  unfolding TraceAnswer CallAnswer
  trace_follows one asked bytes (inl (c, is, a)) b = call_follows asked bytes c is a (checked_given (IsCallAnswer way.Code asked) bytes run_text ended c is b)
  trace_follows one asked bytes (inr refused) b = inl (call_one text run_text status ended one way.Code asked bytes (inr refused) b)

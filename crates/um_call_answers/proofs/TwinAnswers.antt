-- The answer to `twin` is one, and has no status of a fault.
use Rattle.std.proofs.Common.{◌≡◌, ◌⊎◌, ℕ, List, codes, IsTrue, MatchOption, Option, Result, Ok, Err, Some, None, inl, inr, refl, sym, subst, ◌∙◌}
use Rattle.um_frac.specs.declared.number.Frac.{Frac}
use Rattle.um_parse.specs.Laws.{AnswersAreUnique}
use Rattle.um_tree.specs.TypeTree.{TypeTree}
use Rattle.um_tree.specs.ValueTree.{ValueTree, OutcomeTree, value_outcome, trap_outcome, budget_outcome}
use Rattle.um_tree.specs.ProgramTree.{ProgramTree}
use Rattle.um_tree.specs.Formed.{IsFormed}
use Rattle.um_show.specs.ValueText.{value_text}
use Rattle.um_gen.specs.ProgramCode.{program_code}
use Rattle.um_vm.proofs.Calls.{one_outcome}
use Rattle.um_scale.specs.RescaledLiterals.{misfit_in, rescaled_program}
use Rattle.um_sizes.specs.declared.read.ScalesRefusal.{ScalesRefusal}
use Rattle.um_sizes.specs.declared.read.ScalesRefusal.TheVariants as scales_refusal
use Rattle.um_sizes.proofs.UniqueSizes.{scales_are_unique}
use Rattle.um_run.specs.Calls.{CallTree, call_values}
use Rattle.um_reports.specs.declared.status.Status.{Status}
use Rattle.um_reports.specs.ScaleRefusals.{IsLiteralReply, IsMisfitReply}
use Rattle.um_reports.proofs.ReportStatuses.{is_answered, sizes_reply, one_sizes_reply}
use Rattle.um_front.specs.Stages.{CheckedTree, IsCheckedText}
use Rattle.um_front.proofs.CheckedTexts.{shaped_is_formed}
use Rattle.um_front.proofs.StageLaws.{checked_answered, checked_once}
use Rattle.um_call_answers.specs.AskedCall.{AskedCall}
use Rattle.um_call_answers.specs.TwinAnswer.{IsSecondReply, AreValueReplies, IsStopReply, BySecond, AreOutcomeReplies, TwinRunAnswer, misfit_among, rescaled_values, InputsAnswer, TwinLiteralsAnswer, SizedAnswer, ByTwinSizes, IsTwinAnswer, TwinAnswer}
use Rattle.um_call_answers.proofs.CallStage.{call_answered, call_said_once}

-- ---- statuses
module _ (text : List ℕ) (status : Status) where
  abbrev IsAnswered : Type 0
  IsAnswered = IsTrue (is_answered status)

  stop_status : (run : List ℕ) (o : OutcomeTree) → IsStopReply run o text status → IsAnswered
  stop_status run (value_outcome v) reply = absurd reply
  stop_status run (trap_outcome why) reply = rw reply.1 refl
  stop_status run budget_outcome reply = rw reply.1 refl

  values_status : (p : ProgramTree) (t : TypeTree) (v w : ValueTree) → AreValueReplies p t v w text status → IsAnswered
  values_status p t v w (inl (fits, inl (also, reply))) = rw reply.1 refl
  values_status p t v w (inl (fits, inr (unfit, reply))) = rw reply.1 refl
  values_status p t v w (inr (unfit, reply)) = rw reply.1 refl

  second_status : (p : ProgramTree) (t : TypeTree) (v : ValueTree) (o : OutcomeTree) → BySecond p t v o text status → IsAnswered
  second_status p t v (value_outcome w) replies = values_status p t v w replies
  second_status p t v (trap_outcome why) reply = stop_status (codes "second") (trap_outcome why) reply
  second_status p t v budget_outcome reply = stop_status (codes "second") budget_outcome reply

  outcomes_status : (p : ProgramTree) (t : TypeTree) (o e : OutcomeTree) → AreOutcomeReplies p t o e text status → IsAnswered
  outcomes_status p t (value_outcome v) e replies = second_status p t v e replies
  outcomes_status p t (trap_outcome why) e reply = stop_status (codes "first") (trap_outcome why) reply
  outcomes_status p t budget_outcome e reply = stop_status (codes "first") budget_outcome reply

  runs_status : (budget : ℕ) (cs : List Frac) (p : ProgramTree) (call : CallTree) → TwinRunAnswer budget cs p call text status → IsAnswered
  unfolding TwinRunAnswer
  runs_status budget cs p call (o, ended, e, also, replies) = outcomes_status p call.type o e replies

  inputs_status : (budget : ℕ) (cs : List Frac) (p : ProgramTree) (call : CallTree) → InputsAnswer budget cs p call text status → IsAnswered
  unfolding InputsAnswer
  inputs_status budget cs p call answer = by (misfit_among cs call.inputs) answer where
    by : (m : Option ℕ) → MatchOption m (TwinRunAnswer budget cs p call text status) (λ k. IsMisfitReply k text status) → IsAnswered
    by None answer = runs_status budget cs p call answer
    by (Some k) reply = rw reply.1 refl

  literals_status : (budget : ℕ) (cs : List Frac) (bytes : List ℕ) (p : ProgramTree) (call : CallTree) → TwinLiteralsAnswer budget cs bytes p call text status → IsAnswered
  unfolding TwinLiteralsAnswer
  literals_status budget cs bytes p call answer = by (misfit_in cs p.functions) answer where
    by : (m : Option ℕ) → MatchOption m (InputsAnswer budget cs p call text status) (λ at. IsLiteralReply bytes at text status) → IsAnswered
    by None answer = inputs_status budget cs p call answer
    by (Some at) reply = rw reply.1 refl

  sized_status : (cs : List Frac) (asked : AskedCall) (bytes : List ℕ) (c : CheckedTree) → SizedAnswer cs asked bytes c text status → IsAnswered
  unfolding SizedAnswer
  sized_status cs asked bytes c answer =
      call_answered (TwinLiteralsAnswer asked.budget cs bytes) asked c text status (literals_status asked.budget cs bytes c.text.program) answer

  by_sizes_status : (asked : AskedCall) (bytes : List ℕ) (c : CheckedTree) (r : Result (List Frac) ScalesRefusal) → ByTwinSizes asked bytes c r text status → IsAnswered
  by_sizes_status asked bytes c (Ok cs) answer = sized_status cs asked bytes c answer
  by_sizes_status asked bytes c (Err refused) reply = sizes_reply refused text status reply

  twin_status : (word : List ℕ) (asked : AskedCall) (bytes : List ℕ) (c : CheckedTree) → IsTwinAnswer word asked bytes c text status → IsAnswered
  unfolding IsTwinAnswer
  twin_status word asked bytes c (r, read, answer) = by_sizes_status asked bytes c r answer

  pub TwinAnswer-status : (word : List ℕ) (asked : AskedCall) (bytes : List ℕ) → TwinAnswer word asked bytes text status → IsAnswered
  unfolding TwinAnswer
  TwinAnswer-status word asked bytes answer = checked_answered (IsTwinAnswer word asked bytes) bytes text status (twin_status word asked bytes) answer

-- ---- one answer
module _ (text other : List ℕ) (status another : Status) where
  abbrev AreSame : Type 0
  AreSame = (text ≡ other) × (status ≡ another)

  stop_one : (run : List ℕ) (o : OutcomeTree) → IsStopReply run o text status → IsStopReply run o other another → AreSame
  stop_one run (value_outcome v) a b = absurd a
  stop_one run (trap_outcome why) a b = (a.0 ∙ sym b.0, a.1 ∙ sym b.1)
  stop_one run budget_outcome a b = (a.0 ∙ sym b.0, a.1 ∙ sym b.1)

  second_value_one : (p : ProgramTree) (t : TypeTree) (first : List ℕ) (w : ValueTree) → IsSecondReply p t first w text status → IsSecondReply p t first w other another → AreSame
  second_value_one p t first w (inl (fits, a)) (inl (also, b)) = (a.0 ∙ sym b.0, a.1 ∙ sym b.1)
  second_value_one p t first w (inl (fits, a)) (inr (unfit, b)) = absurd (unfit fits)
  second_value_one p t first w (inr (unfit, a)) (inl (fits, b)) = absurd (unfit fits)
  second_value_one p t first w (inr (unfit, a)) (inr (also, b)) = (a.0 ∙ sym b.0, a.1 ∙ sym b.1)

  values_one : (p : ProgramTree) (t : TypeTree) (v w : ValueTree) → AreValueReplies p t v w text status → AreValueReplies p t v w other another → AreSame
  values_one p t v w (inl (fits, a)) (inl (also, b)) = second_value_one p t (value_text p v t) w a b
  values_one p t v w (inl (fits, a)) (inr (unfit, b)) = absurd (unfit fits)
  values_one p t v w (inr (unfit, a)) (inl (fits, b)) = absurd (unfit fits)
  values_one p t v w (inr (unfit, a)) (inr (also, b)) = (a.0 ∙ sym b.0, a.1 ∙ sym b.1)

  second_one : (p : ProgramTree) (t : TypeTree) (v : ValueTree) (o : OutcomeTree) → BySecond p t v o text status → BySecond p t v o other another → AreSame
  second_one p t v (value_outcome w) a b = values_one p t v w a b
  second_one p t v (trap_outcome why) a b = stop_one (codes "second") (trap_outcome why) a b
  second_one p t v budget_outcome a b = stop_one (codes "second") budget_outcome a b

  outcomes_one : (p : ProgramTree) (t : TypeTree) (o e : OutcomeTree) → AreOutcomeReplies p t o e text status → AreOutcomeReplies p t o e other another → AreSame
  outcomes_one p t (value_outcome v) e a b = second_one p t v e a b
  outcomes_one p t (trap_outcome why) e a b = stop_one (codes "first") (trap_outcome why) a b
  outcomes_one p t budget_outcome e a b = stop_one (codes "first") budget_outcome a b

  runs_one : (budget : ℕ) (cs : List Frac) (p : ProgramTree) (call : CallTree) → TwinRunAnswer budget cs p call text status → TwinRunAnswer budget cs p call other another → AreSame
  unfolding TwinRunAnswer
  runs_one budget cs p call (o, ended, e, also, a) (x, again, y, too, b) =
      let same = one_outcome (program_code p.functions) call.function (call_values call) budget o x ended again in
      let alike = one_outcome (program_code (rescaled_program cs p).functions) call.function (rescaled_values cs call) budget e y also too in
      outcomes_one p call.type x y
      (subst (λ z. AreOutcomeReplies p call.type x z text status) alike (subst (λ z. AreOutcomeReplies p call.type z e text status) same a)) b

  inputs_one : (budget : ℕ) (cs : List Frac) (p : ProgramTree) (call : CallTree) → InputsAnswer budget cs p call text status → InputsAnswer budget cs p call other another → AreSame
  unfolding InputsAnswer
  inputs_one budget cs p call a b = by (misfit_among cs call.inputs) a b where
    by : (m : Option ℕ) → MatchOption m (TwinRunAnswer budget cs p call text status) (λ k. IsMisfitReply k text status)
        → MatchOption m (TwinRunAnswer budget cs p call other another) (λ k. IsMisfitReply k other another) → AreSame
    by None x y = runs_one budget cs p call x y
    by (Some k) x y = (x.0 ∙ sym y.0, x.1 ∙ sym y.1)

  literals_one : (budget : ℕ) (cs : List Frac) (bytes : List ℕ) (p : ProgramTree) (call : CallTree) → TwinLiteralsAnswer budget cs bytes p call text status → TwinLiteralsAnswer budget cs bytes p call other another → AreSame
  unfolding TwinLiteralsAnswer
  literals_one budget cs bytes p call a b = by (misfit_in cs p.functions) a b where
    by : (m : Option ℕ) → MatchOption m (InputsAnswer budget cs p call text status) (λ at. IsLiteralReply bytes at text status)
        → MatchOption m (InputsAnswer budget cs p call other another) (λ at. IsLiteralReply bytes at other another) → AreSame
    by None x y = inputs_one budget cs p call x y
    by (Some at) x y = (x.0 ∙ sym y.0, x.1 ∙ sym y.1)

  sized_one : (cs : List Frac) (asked : AskedCall) (bytes : List ℕ) (c : CheckedTree) → IsFormed c.text.program → SizedAnswer cs asked bytes c text status → SizedAnswer cs asked bytes c other another → AreSame
  unfolding SizedAnswer
  sized_one cs asked bytes c formed a b =
      call_said_once (TwinLiteralsAnswer asked.budget cs bytes) asked c text status formed other another (literals_one asked.budget cs bytes c.text.program) a b

  by_sizes_one : (asked : AskedCall) (bytes : List ℕ) (c : CheckedTree) → IsFormed c.text.program → (r : Result (List Frac) ScalesRefusal) → ByTwinSizes asked bytes c r text status → ByTwinSizes asked bytes c r other another → AreSame
  by_sizes_one asked bytes c formed (Ok cs) a b = sized_one cs asked bytes c formed a b
  by_sizes_one asked bytes c formed (Err refused) a b = one_sizes_reply text other status another refused a b

  sizes_one : (asked : AskedCall) (bytes : List ℕ) (c : CheckedTree) → IsFormed c.text.program → (r q : Result (List Frac) ScalesRefusal) → (r ≡ q) ⊎ ((r ≡ Err scales_refusal.NoMemory) ⊎ (q ≡ Err scales_refusal.NoMemory))
      → ByTwinSizes asked bytes c r text status → ByTwinSizes asked bytes c q other another → AreSame
  sizes_one asked bytes c formed r q (inl same) a b = by_sizes_one asked bytes c formed q (subst (λ x. ByTwinSizes asked bytes c x text status) same a) b
  sizes_one asked bytes c formed r q (inr (inl wanting)) a b = absurd (subst (λ x. ByTwinSizes asked bytes c x text status) wanting a)
  sizes_one asked bytes c formed r q (inr (inr wanting)) a b = absurd (subst (λ x. ByTwinSizes asked bytes c x other another) wanting b)

  twin_once : (word : List ℕ) (asked : AskedCall) (bytes : List ℕ) (c : CheckedTree) → IsCheckedText bytes c → IsTwinAnswer word asked bytes c text status → IsTwinAnswer word asked bytes c other another → AreSame
  unfolding IsTwinAnswer
  twin_once word asked bytes c is (r, read, a) (q, also, b) =
      sizes_one asked bytes c (shaped_is_formed bytes c.text is.shaped) r q (scales_are_unique c.text.program.bases word r q read also) a b

  pub twin_one : AnswersAreUnique → (word : List ℕ) (asked : AskedCall) (bytes : List ℕ) → TwinAnswer word asked bytes text status → TwinAnswer word asked bytes other another → AreSame
  unfolding TwinAnswer
  twin_one one word asked bytes a b = checked_once (IsTwinAnswer word asked bytes) bytes text status other another one (twin_once word asked bytes) a b

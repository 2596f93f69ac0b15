-- The answer to a call is one.
use Rattle.std.proofs.Common.{◌≡◌, ℕ, List, inl, inr, sym, subst, ◌∙◌}
use Rattle.std.specs.declared.option.Option.{Option}
use Rattle.um_parse.specs.Laws.{AnswersAreUnique}
use Rattle.um_tree.specs.TypeTree.{TypeTree}
use Rattle.um_tree.specs.ValueTree.{OutcomeTree, value_outcome, trap_outcome, budget_outcome}
use Rattle.um_tree.specs.ProgramTree.{ProgramTree}
use Rattle.um_run.specs.Calls.{CallTree}
use Rattle.um_reports.specs.declared.status.Status.{Status}
use Rattle.um_front.specs.Stages.{CheckedTree, IsCheckedText}
use Rattle.um_front.proofs.CheckedTexts.{shaped_is_formed}
use Rattle.um_front.proofs.StageLaws.{checked_once}
use Rattle.um_call_answers.specs.declared.way.Way.{Way}
use Rattle.um_call_answers.specs.AskedCall.{AskedCall}
use Rattle.um_call_answers.specs.CallAnswer.{CallAnswer, IsCallAnswer, RunAnswer, IsOutcomeReply}
use Rattle.um_call_answers.proofs.CallStage.{call_said_once}
use Rattle.um_call_answers.proofs.CallEnds.{ends_once}

module _ (text other : List ℕ) (status another : Status) where
  abbrev AreSame : Type 0
  AreSame = (text ≡ other) × (status ≡ another)

  -- ---- one outcome has one line
  pub one_outcome_reply : (p : ProgramTree) (t : TypeTree) (o : OutcomeTree) (steps : Option ℕ) → IsOutcomeReply p t o steps text status → IsOutcomeReply p t o steps other another → AreSame
  one_outcome_reply p t (value_outcome v) steps (inl (fits, a)) (inl (also, b)) = (a.0 ∙ sym b.0, a.1 ∙ sym b.1)
  one_outcome_reply p t (value_outcome v) steps (inl (fits, a)) (inr (unfit, b)) = absurd (unfit fits)
  one_outcome_reply p t (value_outcome v) steps (inr (unfit, a)) (inl (fits, b)) = absurd (unfit fits)
  one_outcome_reply p t (value_outcome v) steps (inr (unfit, a)) (inr (also, b)) = (a.0 ∙ sym b.0, a.1 ∙ sym b.1)
  one_outcome_reply p t (trap_outcome why) steps a b = (a.0 ∙ sym b.0, a.1 ∙ sym b.1)
  one_outcome_reply p t budget_outcome steps a b = (a.0 ∙ sym b.0, a.1 ∙ sym b.1)

  run_one : (way : Way) (budget : ℕ) (p : ProgramTree) (call : CallTree) → RunAnswer way budget p call text status → RunAnswer way budget p call other another → AreSame
  unfolding RunAnswer
  run_one way budget p call (o, steps, ended, a) (e, more, also, b) =
      let one = ends_once budget p call way o e steps more ended also in
      let here = subst (λ x. IsOutcomeReply p call.type x steps text status) one.0 a in
      one_outcome_reply p call.type e more (subst (λ n. IsOutcomeReply p call.type e n text status) one.1 here) b

  pub call_once : (way : Way) (asked : AskedCall) (bytes : List ℕ) (c : CheckedTree) → IsCheckedText bytes c → IsCallAnswer way asked c text status → IsCallAnswer way asked c other another → AreSame
  unfolding IsCallAnswer
  call_once way asked bytes c is a b =
      call_said_once (RunAnswer way asked.budget) asked c text status (shaped_is_formed bytes c.text is.shaped) other another (run_one way asked.budget c.text.program) a b

  pub call_one : AnswersAreUnique → (way : Way) (asked : AskedCall) (bytes : List ℕ) → CallAnswer way asked bytes text status → CallAnswer way asked bytes other another → AreSame
  unfolding CallAnswer
  call_one one way asked bytes a b = checked_once (IsCallAnswer way asked) bytes text status other another one (λ c is. call_once way asked bytes c is) a b

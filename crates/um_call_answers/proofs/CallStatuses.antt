-- No answer to a call has the status of a fault.
use Rattle.std.proofs.Common.{ℕ, ◌-◌, List, IsTrue, Option, refl, inl, inr}
use Rattle.um_tree.specs.TypeTree.{TypeTree}
use Rattle.um_tree.specs.ValueTree.{OutcomeTree, value_outcome, trap_outcome, budget_outcome}
use Rattle.um_tree.specs.ProgramTree.{ProgramTree}
use Rattle.um_run.specs.Calls.{CallTree}
use Rattle.um_reports.specs.declared.status.Status.{Status}
use Rattle.um_reports.proofs.ReportStatuses.{is_answered}
use Rattle.um_front.specs.Stages.{CheckedTree}
use Rattle.um_front.proofs.StageLaws.{checked_answered}
use Rattle.um_call_answers.specs.declared.way.Way.{Way}
use Rattle.um_call_answers.specs.declared.way.Way.TheVariants as way
use Rattle.um_call_answers.specs.AskedCall.{AskedCall}
use Rattle.um_call_answers.specs.CallAnswer.{CallAnswer, IsCallAnswer, RunAnswer, IsOutcomeReply}
use Rattle.um_call_answers.specs.BigText.{big_text}
use Rattle.um_call_answers.specs.BigAnswer.{BigAnswer, IsBigAnswer, last_call}
use Rattle.um_call_answers.proofs.CallStage.{call_answered}

pub outcome_reply : (p : ProgramTree) (t : TypeTree) (o : OutcomeTree) (steps : Option ℕ) (text : List ℕ) (status : Status) → IsOutcomeReply p t o steps text status → IsTrue (is_answered status)
outcome_reply p t (value_outcome v) steps text status (inl (fits, reply)) = rw reply.1 refl
outcome_reply p t (value_outcome v) steps text status (inr (unfit, reply)) = rw reply.1 refl
outcome_reply p t (trap_outcome why) steps text status reply = rw reply.1 refl
outcome_reply p t budget_outcome steps text status reply = rw reply.1 refl

run_status : (way : Way) (budget : ℕ) (p : ProgramTree) (call : CallTree) (text : List ℕ) (status : Status) → RunAnswer way budget p call text status → IsTrue (is_answered status)
unfolding RunAnswer
run_status way budget p call text status (o, steps, ended, reply) = outcome_reply p call.type o steps text status reply

pub call_status : (way : Way) (asked : AskedCall) (c : CheckedTree) (text : List ℕ) (status : Status) → IsCallAnswer way asked c text status → IsTrue (is_answered status)
unfolding IsCallAnswer
call_status way asked c text status answer =
    call_answered (RunAnswer way asked.budget) asked c text status (λ call. run_status way asked.budget c.text.program call text status) answer

pub CallAnswer-status : (way : Way) (asked : AskedCall) (bytes text : List ℕ) (status : Status) → CallAnswer way asked bytes text status → IsTrue (is_answered status)
unfolding CallAnswer
CallAnswer-status way asked bytes text status answer = checked_answered (IsCallAnswer way asked) bytes text status (λ c. call_status way asked c text status) answer

big_status : (n : ℕ) (c : CheckedTree) (text : List ℕ) (status : Status) → IsBigAnswer n c text status → IsTrue (is_answered status)
unfolding IsBigAnswer
big_status n c text status (run, answer, told) = call_status way.Code (last_call (n - 1)) c run status answer

pub BigAnswer-status : (n : ℕ) (text : List ℕ) (status : Status) → BigAnswer n text status → IsTrue (is_answered status)
unfolding BigAnswer
BigAnswer-status n text status answer = checked_answered (IsBigAnswer n) (big_text n) text status (λ c. big_status n c text status) answer

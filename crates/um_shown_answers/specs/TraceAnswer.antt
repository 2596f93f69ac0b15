-- The answer to `trace BUDGET NAME ARG*`: that of `run`; and if the call stops, where. That is what was asked for, so
-- the answer is done then.
-- Source: this project's own.
use Rattle.std.specs.Prelude.{ℕ, zero, suc, ◌≡◌, List, Some, None}
use Rattle.um_tree.specs.ValueTree.{OutcomeTree, value_outcome, trap_outcome, budget_outcome}
use Rattle.um_tree.specs.ProgramTree.{ProgramTree}
use Rattle.um_tree.specs.Meaning.{Stop, trap, budget_end, outcome_of_call}
use Rattle.um_eval.specs.Traces.{Trace}
use Rattle.um_eval.specs.Stopping.{StopsWith}
use Rattle.um_run.specs.Calls.{CallTree, call_values}
use Rattle.um_reports.specs.declared.status.Status.{Status}
use Rattle.um_reports.specs.declared.status.Status.TheVariants.{Done}
use Rattle.um_reports.specs.Steps.{line, IsReply}
use Rattle.um_front.specs.Stages.{CheckedTree}
use Rattle.um_front.specs.Staged.{OfChecked}
use Rattle.um_call_answers.specs.AskedCall.{AskedCall}
use Rattle.um_call_answers.specs.CallAnswer.{IsValueReply}
use Rattle.um_call_answers.specs.OfCall.{OfCall}
use Rattle.um_shown_answers.specs.TraceText.{stop_label, trace_text}

-- the text of the one trace of the call; the line of `run` alone if the command's own call finds no budget
abbrev pub IsStopTold : ℕ → List ℕ → ProgramTree → CallTree → Stop → List ℕ → Status → Type 0
IsStopTold zero bytes p call why text status = IsReply text status (line (stop_label why)) Done
IsStopTold (suc budget) bytes p call why text status =
    (t : Trace) × StopsWith p.functions call.function (call_values call) (suc budget) t × (t.why ≡ why)
    × IsReply text status (trace_text p.functions bytes t) Done

abbrev pub IsTracedEnd : ℕ → List ℕ → ProgramTree → CallTree → OutcomeTree → List ℕ → Status → Type 0
IsTracedEnd budget bytes p call (value_outcome v) text status = IsValueReply p call.type v None text status
IsTracedEnd budget bytes p call (trap_outcome why) text status = IsStopTold budget bytes p call (trap why) text status
IsTracedEnd budget bytes p call budget_outcome text status = IsStopTold budget bytes p call budget_end text status

-- the call ends as its meaning has it at the budget
unfoldable pub TracedRun : List ℕ → ℕ → ProgramTree → CallTree → List ℕ → Status → Type 0
TracedRun bytes budget p call text status =
    (o : OutcomeTree) × (outcome_of_call p call.function (call_values call) budget ≡ Some o)
    × IsTracedEnd budget bytes p call o text status

unfoldable pub IsTraceAnswer : AskedCall → List ℕ → CheckedTree → List ℕ → Status → Type 0
IsTraceAnswer asked bytes c text status = OfCall (TracedRun bytes asked.budget) asked c text status

-- of a text's program
unfoldable pub TraceAnswer : AskedCall → List ℕ → List ℕ → Status → Type 0
TraceAnswer asked bytes text status = OfChecked (IsTraceAnswer asked bytes) bytes text status

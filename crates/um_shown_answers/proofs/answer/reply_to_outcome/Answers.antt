use Rattle.std.proofs.Common.{◌≡◌, Some, refl, sym, subst}
use Rattle.std.proofs.lemmas.Result.{IfOk-weaker}
use Rattle.um_tree.specs.declared.value.Outcome.{Outcome as Ended}
use Rattle.um_tree.specs.ValueTree.{outcome_tree, trap_outcome, budget_outcome}
use Rattle.um_tree.specs.ProgramTree.{program_tree}
use Rattle.um_tree.specs.Meaning.{trap, budget_end, Outcome, outcome_of_call}
use Rattle.um_run.specs.Calls.{call_tree, call_values}
use Rattle.um_shown_answers.specs.TraceAnswer.{IsStopTold, TracedRun}
use Rattle.um_shown_answers.proofs.Stops.{trap_stops, budget_stops}
use Rattle.um_shown_answers.proofs.answer.reply_to_outcome.Goals as goal

pub returns-in-Trap : goal.returns-in-Trap
unfolding TracedRun
returns-in-Trap c =
    let p = program_tree c.args.checked.now.text.shaped in
    let call = call_tree c.args.call.now in
    let bytes = c.args.checked.now.text.text.bytes.items in
    let why = c.in-Trap.trap in
    let ends = subst (λ (o : Ended). outcome_of_call p call.function (call_values call) c.args.budget ≡ Some (outcome_tree o)) c.in-Trap.is c.requires.ends in
    IfOk-weaker c.reply_to_stop.result (λ reply. IsStopTold c.args.budget bytes p call (trap why) reply.text.items reply.status)
    (λ reply. TracedRun bytes c.args.budget p call reply.text.items reply.status)
    (λ reply told. (trap_outcome why, ends, told))
    (c.reply_to_stop.ensures (trap why) tt (sym c.trap_label.ensures) (trap_stops (Outcome p.functions call.function (call_values call) c.args.budget) why ends))

pub returns-in-BudgetEnd : goal.returns-in-BudgetEnd
unfolding TracedRun
returns-in-BudgetEnd c =
    let p = program_tree c.args.checked.now.text.shaped in
    let call = call_tree c.args.call.now in
    let bytes = c.args.checked.now.text.text.bytes.items in
    let ends = subst (λ (o : Ended). outcome_of_call p call.function (call_values call) c.args.budget ≡ Some (outcome_tree o)) c.in-BudgetEnd.is c.requires.ends in
    IfOk-weaker c.reply_to_stop-in-BudgetEnd.result (λ reply. IsStopTold c.args.budget bytes p call budget_end reply.text.items reply.status)
    (λ reply. TracedRun bytes c.args.budget p call reply.text.items reply.status)
    (λ reply told. (budget_outcome, ends, told))
    (c.reply_to_stop-in-BudgetEnd.ensures budget_end tt refl (budget_stops (Outcome p.functions call.function (call_values call) c.args.budget) ends))

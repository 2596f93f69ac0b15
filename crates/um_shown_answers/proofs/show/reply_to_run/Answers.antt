use Rattle.std.proofs.Common.{subst}
use Rattle.std.proofs.lemmas.Result.{IfOk-weaker}
use Rattle.um_tree.specs.ValueTree.{outcome_tree}
use Rattle.um_tree.specs.declared.program.Program.{Program}
use Rattle.um_tree.specs.ProgramTree.{program_tree}
use Rattle.um_run.specs.Calls.{call_tree}
use Rattle.um_shown_answers.specs.ShowAnswer.{IsDisplayedEnd, DisplayedRun}
use Rattle.um_shown_answers.proofs.show.reply_to_run.Goals as goal

pub returns : goal.returns
unfolding DisplayedRun
returns c =
    let display = c.args.display.now in
    let p = program_tree c.args.checked.now.text.shaped in
    let call = call_tree c.args.call.now in
    let outcome = outcome_tree c.in_ok-outcome.outcome in
    IfOk-weaker c.reply_to_end-reply.result (λ reply. IsDisplayedEnd display.digits display.units.now (program_tree display.program.now) call.type outcome reply.text.items reply.status)
    (λ reply. DisplayedRun display.digits display.units.now c.args.budget p call reply.text.items reply.status)
    (λ reply told. (outcome, c.in_ok-outcome.ensures, subst (λ (q : Program). IsDisplayedEnd display.digits display.units.now (program_tree q) call.type outcome reply.text.items reply.status) c.requires.same told))
    c.reply_to_end-reply.ensures

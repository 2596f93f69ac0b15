use Rattle.std.proofs.Common.{inl, inr, sym, subst}
use Rattle.std.proofs.lemmas.Result.{IfOk-weaker}
use Rattle.um_tree.specs.declared.program.Program.{Program}
use Rattle.um_tree.specs.ProgramTree.{program_tree}
use Rattle.um_cells.specs.Arguments.{AreArgumentsOf}
use Rattle.um_run.specs.Calls.{call_tree, call_values}
use Rattle.um_front.specs.Parts.{checked_tree}
use Rattle.um_call_answers.specs.Calling.{asked_call}
use Rattle.um_call_answers.specs.OfCall.{IsRefusedCall}
use Rattle.um_call_answers.specs.CallAnswer.{IsCallAnswer, RunAnswer}
use Rattle.um_call_answers.proofs.call.answer_checked.Goals as goal

pub reply_to_run-answer-requires : goal.reply_to_run-answer-requires
reply_to_run-answer-requires c =
    let call = call_tree c.in-Ok.read in
    record {
      can = record {
        arguments = subst (λ (p : Program). AreArgumentsOf (program_tree p) call.function (call_values call)) (sym c.shaped.ensures.shaped) c.in-Ok.ensures.typed.arguments;
        small = c.requires.call.small;
      };
    }

pub returns-in-Ok : goal.returns-in-Ok
unfolding IsCallAnswer
returns-in-Ok c =
    let asked = asked_call c.args.call.now in let checked = checked_tree c.args.checked.now in let call = call_tree c.in-Ok.read in
    IfOk-weaker c.reply_to_run-answer.result (λ reply. RunAnswer c.args.way asked.budget (program_tree c.shaped.result.now) call reply.text.items reply.status)
    (λ reply. IsCallAnswer c.args.way asked checked reply.text.items reply.status)
    (λ reply says. inl (call, c.in-Ok.ensures.exact, subst (λ (p : Program). RunAnswer c.args.way asked.budget (program_tree p) call reply.text.items reply.status) c.shaped.ensures.shaped says))
    c.reply_to_run-answer.ensures

pub returns-in-Err : goal.returns-in-Err
unfolding IsCallAnswer
returns-in-Err c =
    let asked = asked_call c.args.call.now in let checked = checked_tree c.args.checked.now in
    IfOk-weaker c.in-Err.refused (λ reply. IsRefusedCall asked checked reply.text.items reply.status)
    (λ reply. IsCallAnswer c.args.way asked checked reply.text.items reply.status)
    (λ reply says. inr says)
    c.in-Err.ensures.refused

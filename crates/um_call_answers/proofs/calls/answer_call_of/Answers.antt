use Rattle.std.proofs.Common.{Ok, Err, length, map, string_bytes, inl, inr, subst}
use Rattle.std.proofs.lemmas.List.{length-map}
use Rattle.std.proofs.lemmas.Result.{IfOk-weaker}
use Rattle.um_tree.specs.declared.program.Program.{Program}
use Rattle.um_tree.specs.ProgramTree.{program_tree}
use Rattle.um_value.specs.KnownNames.{known_in}
use Rattle.um_infer.specs.Answers.{scheme_trees}
use Rattle.um_run.specs.Calls.{call_tree}
use Rattle.um_run.specs.Laws.{IsTypedCall}
use Rattle.um_reports.specs.Calling.{NamesText}
use Rattle.um_reports.specs.CallRefusals.{IsCallReply}
use Rattle.um_front.specs.Parts.{checked_tree}
use Rattle.um_call_answers.specs.declared.way.Way.TheVariants as way
use Rattle.um_call_answers.specs.Calling.{asked_call}
use Rattle.um_call_answers.specs.CallAnswer.{IsCallAnswer, RunAnswer}
use Rattle.um_call_answers.proofs.AskedCalls.{read_as_asked, text_named}
use Rattle.um_call_answers.proofs.calls.answer_call_of.Goals as goal

pub reply_to_compiled-answer-requires-clause-typed : goal.reply_to_compiled-answer-requires-clause-typed
reply_to_compiled-answer-requires-clause-typed c =
    subst (λ (p : Program). IsTypedCall (program_tree p) (call_tree c.in-Ok.read)) c.requires.callable.shaped c.in-Ok.ensures.typed

pub reply_to_call-requires : goal.reply_to_call-requires
reply_to_call-requires c =
    let texts = c.args.call.now.texts.now in let callable = c.args.callable.now in
    let there = text_named (program_tree callable.shaped.now) (known_in callable.names).shorts (scheme_trees callable.schemes.now) c.args.call.now.name.now (map string_bytes texts) c.in-Err.refusal c.in-Err.ensures.exact in
    record { named = subst (λ n. NamesText n c.in-Err.refusal) (length-map texts string_bytes) there }

pub returns-in-Ok : goal.returns-in-Ok
unfolding IsCallAnswer
returns-in-Ok c =
    let asked = asked_call c.args.call.now in let program = c.args.program.now in let callable = c.args.callable.now in let same = c.requires.callable in
    let call = call_tree c.in-Ok.read in
    let named = read_as_asked program.text.shaped callable.shaped.now program.text.abbreviations (known_in callable.names).shorts program.schemes callable.schemes.now asked.name asked.texts (Ok call) same.shaped same.abbreviations same.schemes c.in-Ok.ensures.exact in
    IfOk-weaker c.reply_to_compiled-answer.result (λ reply. RunAnswer way.Code asked.budget (program_tree program.text.shaped) call reply.text.items reply.status)
    (λ reply. IsCallAnswer way.Code asked (checked_tree program) reply.text.items reply.status)
    (λ reply says. inl (call, named, says))
    c.reply_to_compiled-answer.ensures

pub returns-in-Err : goal.returns-in-Err
unfolding IsCallAnswer
returns-in-Err c =
    let asked = asked_call c.args.call.now in let program = c.args.program.now in let callable = c.args.callable.now in let same = c.requires.callable in
    let refusal = c.in-Err.refusal in
    let named = read_as_asked program.text.shaped callable.shaped.now program.text.abbreviations (known_in callable.names).shorts program.schemes callable.schemes.now asked.name asked.texts (Err refusal) same.shaped same.abbreviations same.schemes c.in-Err.ensures.exact in
    IfOk-weaker c.reply_to_call.result (λ reply. IsCallReply asked.texts refusal reply.text.items reply.status)
    (λ reply. IsCallAnswer way.Code asked (checked_tree program) reply.text.items reply.status)
    (λ reply says. inr (refusal, named, says))
    c.reply_to_call.ensures

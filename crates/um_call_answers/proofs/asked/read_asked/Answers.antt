use Rattle.std.proofs.Common.{length, map, string_bytes, Ok, Err, sym, subst}
use Rattle.std.proofs.lemmas.List.{length-map}
use Rattle.std.proofs.lemmas.Result.{IfOk-weaker}
use Rattle.um_tree.specs.declared.program.Program.{Program}
use Rattle.um_tree.specs.ProgramTree.{program_tree}
use Rattle.um_infer.specs.Answers.{scheme_trees}
use Rattle.um_run.specs.Calls.{AreClosedUnits, call_tree}
use Rattle.um_run.specs.Laws.{IsTypedCall}
use Rattle.um_reports.specs.Calling.{NamesText}
use Rattle.um_reports.specs.CallRefusals.{IsCallReply}
use Rattle.um_front.specs.Parts.{checked_tree}
use Rattle.um_call_answers.specs.Calling.{asked_call}
use Rattle.um_call_answers.specs.OfCall.{IsRefusedCall}
use Rattle.um_call_answers.proofs.AskedCalls.{read_as_asked, text_named}
use Rattle.um_call_answers.proofs.asked.read_asked.Goals as goal

pub read_call-requires-clause-closed : goal.read_call-requires-clause-closed
read_call-requires-clause-closed c =
    subst (λ (p : Program). AreClosedUnits (length (program_tree p).bases) c.abbreviations-abbreviations.result.now) (sym c.shaped-shaped.ensures.shaped) c.abbreviations-abbreviations.ensures.closed

pub reply_to_call-requires : goal.reply_to_call-requires
reply_to_call-requires c =
    let texts = c.args.call.now.texts.now in
    let there = text_named (program_tree c.shaped-shaped.result.now) c.abbreviations-abbreviations.result.now (scheme_trees c.schemes-schemes.result.now) c.args.call.now.name.now (map string_bytes texts) c.in-Err.refusal c.in-Err.ensures.exact in
    record { named = subst (λ n. NamesText n c.in-Err.refusal) (length-map texts string_bytes) there }

pub returns-in-Ok-clause-exact : goal.returns-in-Ok-clause-exact
returns-in-Ok-clause-exact c =
    let asked = asked_call c.args.call.now in
    read_as_asked c.args.checked.now.text.shaped c.shaped-shaped.result.now c.args.checked.now.text.abbreviations c.abbreviations-abbreviations.result.now c.args.checked.now.schemes c.schemes-schemes.result.now asked.name asked.texts (Ok (call_tree c.in-Ok.read)) c.shaped-shaped.ensures.shaped c.abbreviations-abbreviations.ensures.abbreviations c.schemes-schemes.ensures.schemes c.in-Ok.ensures.exact

pub returns-in-Ok-clause-typed : goal.returns-in-Ok-clause-typed
returns-in-Ok-clause-typed c =
    subst (λ (p : Program). IsTypedCall (program_tree p) (call_tree c.in-Ok.read)) c.shaped-shaped.ensures.shaped c.in-Ok.ensures.typed

pub returns-in-Err-clause-refused : goal.returns-in-Err-clause-refused
returns-in-Err-clause-refused c =
    let asked = asked_call c.args.call.now in let checked = checked_tree c.args.checked.now in let refusal = c.in-Err.refusal in
    let named = read_as_asked c.args.checked.now.text.shaped c.shaped-shaped.result.now c.args.checked.now.text.abbreviations c.abbreviations-abbreviations.result.now c.args.checked.now.schemes c.schemes-schemes.result.now asked.name asked.texts (Err refusal) c.shaped-shaped.ensures.shaped c.abbreviations-abbreviations.ensures.abbreviations c.schemes-schemes.ensures.schemes c.in-Err.ensures.exact in
    IfOk-weaker c.reply_to_call.result (λ reply. IsCallReply asked.texts refusal reply.text.items reply.status)
    (λ reply. IsRefusedCall asked checked reply.text.items reply.status)
    (λ reply says. (refusal, named, says))
    c.reply_to_call.ensures

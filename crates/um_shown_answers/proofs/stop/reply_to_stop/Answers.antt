use Rattle.std.proofs.Common.{◌≡◌, List, [], map, ap, ◌∙◌, sym, subst}
use Rattle.std.specs.Prelude.{Option}
use Rattle.std.proofs.lemmas.Result.{IfOk-weaker}
use Rattle.um_tree.specs.ValueTree.{ValueTree, value_tree}
use Rattle.um_tree.specs.declared.program.Program.{Program}
use Rattle.um_tree.specs.ProgramTree.{program_tree}
use Rattle.um_eval.specs.declared.stop.Path.{Path}
use Rattle.um_eval.specs.Paths.{IsFound}
use Rattle.um_run.specs.Calls.{call_tree, call_values}
use Rattle.um_reports.specs.declared.status.Status.TheVariants.{Done}
use Rattle.um_reports.specs.Steps.{line, IsReply}
use Rattle.um_front.specs.Parts.{checked_tree}
use Rattle.um_shown_answers.specs.TraceText.{stop_label, trace_text}
use Rattle.um_shown_answers.specs.TraceAnswer.{IsStopTold}
use Rattle.um_shown_answers.proofs.Stops.{path_places, same_stop, told, untold}
use Rattle.um_shown_answers.proofs.stop.reply_to_stop.Goals as goal

pub reply_to_path-reply-requires : goal.reply_to_path-reply-requires
reply_to_path-reply-requires c =
    let p = program_tree c.args.checked.now.text.shaped in
    let call = c.args.call.now in
    let bytes = c.args.checked.now.text.text.bytes.items in
    let program : c.new-runner.result ≡ c.args.checked.now.text.shaped = c.new-runner.ensures ∙ c.shaped.ensures.shaped in
    let on_values = subst (λ (q : Program). IsFound (program_tree q).functions call.function (map value_tree c.in_ok-values.values.items.items) c.args.budget c.in_ok-path.field-0) program c.in_ok-path.ensures in
    let on_call = subst (λ (vs : List ValueTree). IsFound p.functions call.function vs c.args.budget c.in_ok-path.field-0) c.in_ok-values.ensures on_values in
    let found = subst (λ (o : Option Path). IsFound p.functions call.function (call_values (call_tree call)) c.args.budget o) c.in-Some.is on_call in
    record {
      places = path_places bytes (checked_tree c.args.checked.now) c.shaped.ensures.checked call.function (call_values (call_tree call)) c.args.budget found.0 c.in-Some.path found.1 found.2;
    }

pub returns-in-Some : goal.returns-in-Some
returns-in-Some c = λ why is label end.
    let p = program_tree c.args.checked.now.text.shaped in
    let call = c.args.call.now in
    let tree = call_tree call in
    let bytes = c.args.checked.now.text.text.bytes.items in
    let program : c.new-runner.result ≡ c.args.checked.now.text.shaped = c.new-runner.ensures ∙ c.shaped.ensures.shaped in
    let on_values = subst (λ (q : Program). IsFound (program_tree q).functions call.function (map value_tree c.in_ok-values.values.items.items) c.args.budget c.in_ok-path.field-0) program c.in_ok-path.ensures in
    let on_call = subst (λ (vs : List ValueTree). IsFound p.functions call.function vs c.args.budget c.in_ok-path.field-0) c.in_ok-values.ensures on_values in
    let found = subst (λ (o : Option Path). IsFound p.functions call.function (call_values tree) c.args.budget o) c.in-Some.is on_call in
    let t = found.0 in
    let same = same_stop bytes p tree why [] Done c.args.budget t end found.1 in
    IfOk-weaker c.reply_to_path-reply.result (λ reply. IsReply reply.text.items reply.status (trace_text p.functions bytes t) Done)
    (λ reply. IsStopTold c.args.budget bytes p tree why reply.text.items reply.status)
    (λ reply says. told bytes p tree why reply.text.items reply.status c.args.budget t same found.1 says)
    (c.reply_to_path-reply.ensures t found.2 (ap stop_label same ∙ label))

pub returns-in-None : goal.returns-in-None
returns-in-None c = λ why is label end.
    let p = program_tree c.args.checked.now.text.shaped in
    let call = c.args.call.now in
    let tree = call_tree call in
    let bytes = c.args.checked.now.text.text.bytes.items in
    let program : c.new-runner.result ≡ c.args.checked.now.text.shaped = c.new-runner.ensures ∙ c.shaped.ensures.shaped in
    let on_values = subst (λ (q : Program). IsFound (program_tree q).functions call.function (map value_tree c.in_ok-values.values.items.items) c.args.budget c.in_ok-path.field-0) program c.in_ok-path.ensures in
    let on_call = subst (λ (vs : List ValueTree). IsFound p.functions call.function vs c.args.budget c.in_ok-path.field-0) c.in_ok-values.ensures on_values in
    let never = subst (λ (o : Option Path). IsFound p.functions call.function (call_values tree) c.args.budget o) c.in-None.is on_call in
    IfOk-weaker c.reply_line.result (λ reply. IsReply reply.text.items reply.status (line c.args.label.now) Done)
    (λ reply. IsStopTold c.args.budget bytes p tree why reply.text.items reply.status)
    (λ reply says. untold bytes p tree why reply.text.items reply.status c.args.budget is end never (subst (λ l. IsReply reply.text.items reply.status (line l) Done) (sym label) says))
    c.reply_line.ensures

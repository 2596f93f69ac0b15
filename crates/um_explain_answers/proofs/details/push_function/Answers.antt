use Rattle.std.proofs.Common.{ap}
use Rattle.std.proofs.lemmas.Result.{on_ok_weaker}
use Rattle.um_tree.specs.RawTree.{program_syntax}
use Rattle.um_tree.specs.ProgramTree.{program_tree}
use Rattle.um_unit_reasons.specs.Answers.{reason_tree}
use Rattle.um_explain_answers.proofs.Stops.{told_by}
use Rattle.um_explain_answers.proofs.details.push_function.Goals as goal

pub returns : goal.returns
returns c =
    let text = c.args.text.now in
    on_ok_weaker c.push_reason-pushed.result
    (told_by text.bytes.now (program_syntax text.raw.now) (program_tree text.shaped.now) c.args.i c.args.rigid (reason_tree c.in_ok-reason.reason) (program_tree c.program.result.now) c.args.out.now.items
    c.push_reason-pushed.new.out.items c.in_ok-reason.ensures (ap program_tree c.program.ensures.program))
    c.push_reason-pushed.ensures

use Rattle.std.proofs.Common.{sym, ◌∙◌}
use Rattle.std.proofs.lemmas.List.{length-map}
use Rattle.std.proofs.lemmas.Result.{IfOk-weaker}
use Rattle.um_tree.specs.ProgramTree.{program_tree, scheme_tree}
use Rattle.um_tree.specs.RawTree.{program_syntax}
use Rattle.um_infer.specs.Answers.{scheme_trees}
use Rattle.um_reports.specs.Steps.{IsReply}
use Rattle.um_reports.specs.declared.status.Status.TheVariants.{Done}
use Rattle.um_answers.specs.TypesAnswer.{scheme_lines}
use Rattle.um_explain_answers.specs.ExplainAnswer.{ExplainAnswer}
use Rattle.um_explain_answers.proofs.Refusals.{typed_answer}
use Rattle.um_explain_answers.proofs.schemes.answer_shaped.Goals as goal

pub reply_schemes-requires : goal.reply_schemes-requires
reply_schemes-requires c = record { count = sym (length-map c.in-Ok.schemes.items.items scheme_tree) ∙ c.in-Ok.ensures.typings.count }

pub returns-in-Ok : goal.returns-in-Ok
returns-in-Ok c =
    let bytes = c.args.bytes.now in let p = program_tree c.args.shaped.now in let schemes = scheme_trees c.in-Ok.schemes in
    IfOk-weaker c.reply_schemes.result (λ reply. IsReply reply.text.items reply.status (scheme_lines p p.functions schemes) Done)
    (λ reply. ExplainAnswer bytes reply.text.items reply.status)
    (λ reply told. typed_answer bytes reply.text.items reply.status (program_syntax c.args.raw.now) p c.requires.names c.requires.faultless schemes c.in-Ok.ensures.inferred told)
    c.reply_schemes.ensures

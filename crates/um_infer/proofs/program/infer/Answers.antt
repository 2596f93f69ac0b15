use Rattle.std.proofs.Common.{subst}
use Rattle.um_tree.specs.ProgramTree.{program_tree}
use Rattle.um_infer.specs.Answers.{IsFirstInferred}
use Rattle.um_infer.proofs.AnswerLaws.{inferred_answers_are_right}
use Rattle.um_infer.proofs.program.infer.Goals as goal

pub returns-clause-inferred : goal.returns-clause-inferred
returns-clause-inferred c =
    let p = program_tree c.args.shaped.now in
    subst (λ n. IsFirstInferred p n c.infer_first.result) c.function_count-functions.ensures.count c.infer_first.ensures

pub returns-clause-typings : goal.returns-clause-typings
returns-clause-typings c =
    let p = program_tree c.args.shaped.now in
    inferred_answers_are_right p c.function_count-functions.ensures.formed c.infer_first.result
    (subst (λ n. IsFirstInferred p n c.infer_first.result) c.function_count-functions.ensures.count c.infer_first.ensures)

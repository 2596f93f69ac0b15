use Rattle.std.proofs.Common.{length, sym, subst}
use Rattle.um_tree.specs.declared.program.Program.{Program}
use Rattle.um_tree.specs.declared.program.Schemes.{Schemes}
use Rattle.um_tree.specs.ProgramTree.{program_tree}
use Rattle.um_infer.specs.Answers.{scheme_trees}
use Rattle.um_infer.specs.SolvedPrograms.{AreSolvedFunctions}
use Rattle.um_answers.proofs.annot.reply_annotated.Goals as goal

pub reply_listing-reply-requires-clause-solved : goal.reply_listing-reply-requires-clause-solved
reply_listing-reply-requires-clause-solved c =
    let all = c.args.text.functions.items in
    let shaped = c.shaped.result.now in
    subst (λ (schemes : Schemes). AreSolvedFunctions (program_tree shaped) (scheme_trees schemes) (length (program_tree shaped).functions) all) (sym c.schemes.ensures.schemes)
    (subst (λ (p : Program). AreSolvedFunctions (program_tree p) (scheme_trees c.args.text.checked.schemes) (length (program_tree p).functions) all) (sym c.shaped.ensures.shaped) c.requires)

use Rattle.std.proofs.Common.{length, sym, subst}
use Rattle.um_tree.specs.ProgramTree.{program_tree}
use Rattle.um_infer.specs.Answers.{scheme_trees}
use Rattle.um_infer.specs.SolvedPrograms.{AreSolvedFunctions}
use Rattle.um_front.specs.declared.parts.CheckedParts.{CheckedParts}
use Rattle.um_front.proofs.checking.solve_shaped.Goals as goal

pub returns-in-Ok-clause-solved : goal.returns-in-Ok-clause-solved
returns-in-Ok-clause-solved c =
    let all = c.in-Ok.field-0.functions.items in
    subst (λ (parts : CheckedParts). AreSolvedFunctions (program_tree parts.text.shaped) (scheme_trees parts.schemes) (length (program_tree parts.text.shaped).functions) all)
    (sym c.new.ensures) c.in-Ok.ensures.solved

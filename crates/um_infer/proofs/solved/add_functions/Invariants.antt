use Rattle.std.proofs.Common.{◌≡◌}
use Rattle.um_tree.specs.ProgramTree.{program_tree}
use Rattle.um_infer.specs.Inference.{all_schemes, infer_first}
use Rattle.um_infer.specs.Answers.{scheme_trees}
use Rattle.um_infer.specs.SolvedPrograms.{AreSolvedFunctions}
use Rattle.um_infer.proofs.solved.add_functions.Given as goal

abbrev pub invariant-loop-i : goal.invariant-loop-i
invariant-loop-i l =
    (infer_first (program_tree l.shaped) l.i ≡ all_schemes (scheme_trees l.solved.schemes))
    × AreSolvedFunctions (program_tree l.shaped) (scheme_trees l.solved.schemes) l.i l.solved.functions.items

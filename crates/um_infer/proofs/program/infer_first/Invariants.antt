use Rattle.std.proofs.Common.{◌≡◌}
use Rattle.um_tree.specs.ProgramTree.{program_tree}
use Rattle.um_infer.specs.Inference.{all_schemes, infer_first}
use Rattle.um_infer.specs.Answers.{scheme_trees}
use Rattle.um_infer.proofs.program.infer_first.Given as goal

abbrev pub invariant-loop-i : goal.invariant-loop-i
invariant-loop-i l = infer_first (program_tree l.shaped) l.i ≡ all_schemes (scheme_trees l.schemes)

use Rattle.std.proofs.Common.{◌≡◌, length}
use Rattle.um_tree.specs.ProgramTree.{program_tree}
use Rattle.um_infer.specs.Answers.{scheme_trees}
use Rattle.um_proof.specs.ProgramSteps.{AreYesOf, AreTidyYes}
use Rattle.um_proof.proofs.program.add_yes.Given as goal

abbrev pub invariant-loop-i : goal.invariant-loop-i
invariant-loop-i l = record {
  count : length l.items.items ≡ l.i;
  valid : AreYesOf (program_tree l.shaped) (scheme_trees l.schemes) l.items.items;
  tidy : AreTidyYes (program_tree l.shaped) l.items.items;
}

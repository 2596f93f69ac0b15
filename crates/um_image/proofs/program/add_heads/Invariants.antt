use Rattle.std.proofs.Common.{map}
use Rattle.um_tree.specs.ProgramTree.{program_tree}
use Rattle.um_verify.specs.ImageTree.{head_tree}
use Rattle.um_image.specs.HeadsMade.{AreHeadsOf}
use Rattle.um_image.proofs.program.add_heads.Given as goal

abbrev pub invariant-loop-f : goal.invariant-loop-f
invariant-loop-f l = AreHeadsOf (program_tree l.shaped) l.f (map head_tree l.heads.items)

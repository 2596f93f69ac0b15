use Rattle.std.proofs.Common.{map}
use Rattle.um_tree.specs.TypeTree.{type_tree}
use Rattle.um_tree.specs.ProgramTree.{program_tree}
use Rattle.um_unit_reasons.specs.Answers.{told_trees}
use Rattle.um_unit_reasons.proofs.LoopSteps.{ToldLeft}
use Rattle.um_unit_reasons.proofs.texts.push_told.Given as goal

abbrev pub invariant-loop-j : goal.invariant-loop-j
invariant-loop-j l = ToldLeft (program_tree l.program) l.texts (told_trees l.agreements) (map type_tree l.types) l.j l.initial.all.items l.all.items

use Rattle.um_tree.specs.ProgramTree.{program_tree}
use Rattle.um_code.proofs.AddedLines.{LinesLeft}
use Rattle.um_code.proofs.lines.push_ops.Given as goal

abbrev pub invariant-loop-i : goal.invariant-loop-i
invariant-loop-i l = LinesLeft (program_tree l.program) l.start l.ops l.i l.initial.text.items l.text.items

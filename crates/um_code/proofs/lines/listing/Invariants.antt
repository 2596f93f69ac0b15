use Rattle.um_tree.specs.ProgramTree.{program_tree}
use Rattle.um_code.proofs.AddedLines.{FunctionsLeft}
use Rattle.um_code.proofs.lines.listing.Given as goal

abbrev pub invariant-loop-i : goal.invariant-loop-i
invariant-loop-i l = FunctionsLeft (program_tree l.program) l.ops l.functions l.entries l.i l.text.items

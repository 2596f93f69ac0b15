use Rattle.std.proofs.Common.{◌≡◌, take, map}
use Rattle.um_tree.specs.ProgramTree.{program_tree, function_tree, scheme_tree}
use Rattle.um_answers.specs.TypesAnswer.{scheme_lines}
use Rattle.um_answers.proofs.types.schemes_text.Given as goal

abbrev pub invariant-loop-i : goal.invariant-loop-i
invariant-loop-i l =
    l.text.items ≡ scheme_lines (program_tree l.program) (map function_tree (take l.i l.functions)) (map scheme_tree (take l.i l.schemes.items.items))

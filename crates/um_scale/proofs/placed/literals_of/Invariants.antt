use Rattle.std.proofs.Common.{◌≡◌, ◌++◌, map, drop}
use Rattle.um_tree.specs.ProgramTree.{function_tree}
use Rattle.um_scale.specs.RescaledText.{literals_of}
use Rattle.um_scale.proofs.placed.literals_of.Given as goal

abbrev pub invariant-loop-k : goal.invariant-loop-k
invariant-loop-k l = l.found.items ++ literals_of (map function_tree (drop l.k l.functions)) ≡ literals_of (map function_tree l.functions)

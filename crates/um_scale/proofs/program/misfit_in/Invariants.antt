use Rattle.std.proofs.Common.{◌≡◌, map, drop}
use Rattle.um_tree.specs.ProgramTree.{function_tree}
use Rattle.um_scale.specs.RescaledLiterals.{misfit_in}
use Rattle.um_scale.proofs.program.misfit_in.Given as goal

abbrev pub invariant-loop-i : goal.invariant-loop-i
invariant-loop-i l = l.found ≡ misfit_in l.scales (map function_tree (drop l.i l.functions))

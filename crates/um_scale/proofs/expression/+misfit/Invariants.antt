use Rattle.std.proofs.Common.{◌≡◌, map, drop}
use Rattle.um_tree.specs.ExprTree.{expr_tree, in_order}
use Rattle.um_scale.specs.RescaledLiterals.{first_misfit}
use Rattle.um_scale.proofs.expression.+misfit.Given as goal

abbrev pub invariant-first_misfit-loop-i : goal.invariant-first_misfit-loop-i
invariant-first_misfit-loop-i l = l.found ≡ first_misfit l.scales (in_order (map expr_tree (drop l.i l.items)))

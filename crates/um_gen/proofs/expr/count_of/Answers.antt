use Rattle.std.proofs.Common.{map, sym, arith}
use Rattle.um_tree.specs.ExprTree.{expr_tree, in_order}
use Rattle.um_gen.proofs.EachEmitted.{counted}
use Rattle.um_gen.proofs.Sizes.{some_each}
use Rattle.um_gen.proofs.expr.count_of.Goals as goal

pub overflow_cast-result : goal.overflow_cast-result
overflow_cast-result c =
    omega (arith, some_each (in_order (map expr_tree c.args.parts.now)), counted c.args.parts.now, c.requires)

pub returns : goal.returns
returns c = sym (counted c.args.parts.now)

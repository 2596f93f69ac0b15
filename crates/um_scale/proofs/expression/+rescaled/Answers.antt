use Rattle.std.proofs.Common.{◌≡◌, map, rules}
use Rattle.um_tree.specs.ExprTree.{expr_tree, expr_trees, in_order}
use Rattle.um_tree.specs.declared.expression.Expr.{the_lemmas}
use Rattle.um_scale.proofs.ExprLists.{all_rescaled-in_order}
use Rattle.um_scale.proofs.expression.+rescaled.Goals as goal

pub listed-returns : goal.listed-returns
listed-returns t c =
    let items = c.deref.result.now in
    let seen : expr_trees c.args.items.now ≡ in_order (map expr_tree items) = search (rules, the_lemmas) in
    rw (seen, all_rescaled-in_order c.args.scales.now expr_tree items) (search (rules, the_lemmas))

use Rattle.std.proofs.Common.{◌≡◌, ◌+◌, ◌++◌, max, map, drop}
use Rattle.um_tree.proofs.expression.Expr.TheLaws.{the_size}
use Rattle.um_tree.specs.ExprTree.{expr_tree, in_order}
use Rattle.um_scale.specs.RescaledText.{all_literals}
use Rattle.um_scale.proofs.placed.+push_literals.Given as goal

abbrev pub invariant-push_each-loop-i : goal.invariant-push_each-loop-i
invariant-push_each-loop-i l =
    l.found.items ++ all_literals (in_order (map expr_tree (drop l.i l.items))) ≡ l.fn.found.items ++ all_literals (in_order (map expr_tree l.items))

-- Twice the size of what is read, and how many calls a function is away from one with a smaller part.

abbrev pub decreases-push_literals : goal.decreases-push_literals
decreases-push_literals l = the_size l.e.now + the_size l.e.now

abbrev pub decreases-push_two : goal.decreases-push_two
decreases-push_two l = max (the_size l.a.now) (the_size l.b.now) + max (the_size l.a.now) (the_size l.b.now) + 1

abbrev pub decreases-push_three : goal.decreases-push_three
decreases-push_three l =
    let size = max (the_size l.a.now) (max (the_size l.b.now) (the_size l.c.now)) in
    size + size + 2

abbrev pub decreases-push_each : goal.decreases-push_each
decreases-push_each l = goal.size-push_each l + goal.size-push_each l + 1

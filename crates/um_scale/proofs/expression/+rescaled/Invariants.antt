use Rattle.std.proofs.Common.{◌≡◌, ◌+◌, max, map, take}
use Rattle.um_tree.proofs.expression.Expr.TheLaws.{the_size}
use Rattle.um_tree.specs.ExprTree.{expr_tree}
use Rattle.um_scale.specs.RescaledLiterals.{rescaled}
use Rattle.um_scale.proofs.expression.+rescaled.Given as goal

abbrev pub invariant-each-loop-i : goal.invariant-each-loop-i
invariant-each-loop-i l = map expr_tree l.copies.items ≡ map (λ e. rescaled l.scales (expr_tree e)) (take l.i l.items)

-- Twice the size of what is read, and how many calls a function is away from one with a smaller part.

abbrev pub decreases-rescaled : goal.decreases-rescaled
decreases-rescaled l = the_size l.e.now + the_size l.e.now

abbrev pub decreases-boxed : goal.decreases-boxed
decreases-boxed l = the_size l.e.now + the_size l.e.now + 1

abbrev pub decreases-two : goal.decreases-two
decreases-two l = max (the_size l.a.now) (the_size l.b.now) + max (the_size l.a.now) (the_size l.b.now) + 2

abbrev pub decreases-three : goal.decreases-three
decreases-three l =
    let size = max (the_size l.a.now) (max (the_size l.b.now) (the_size l.c.now)) in
    size + size + 3

abbrev pub decreases-listed : goal.decreases-listed
decreases-listed l = goal.size-listed l + goal.size-listed l + 2

abbrev pub decreases-each : goal.decreases-each
decreases-each l = goal.size-each l + goal.size-each l + 1

use Rattle.std.proofs.Common.{◌+◌, max}
use Rattle.um_tree.proofs.expression.Expr.TheLaws.{the_size}
use Rattle.um_mismatch.specs.FlatShapes.{known_records, heads_shapes}
use Rattle.um_mismatch.proofs.AllTold.{IsLeft}
use Rattle.um_mismatch.proofs.body.+body.Given as goal

abbrev pub invariant-shapes_of-loop-i : goal.invariant-shapes_of-loop-i
invariant-shapes_of-loop-i l =
    IsLeft l.body.function (known_records l.body.known.now.records.items) (heads_shapes l.body.known.now.heads.items) l.fn.scope.items l.parts l.i l.shapes.items l.scope.items

abbrev pub decreases-asked_shape : goal.decreases-asked_shape
decreases-asked_shape l = the_size l.a.now + 1

abbrev pub decreases-pair_shape : goal.decreases-pair_shape
decreases-pair_shape l = max (the_size l.a.now) (the_size l.b.now) + 1

abbrev pub decreases-let_shape : goal.decreases-let_shape
decreases-let_shape l = max (the_size l.a.now) (the_size l.b.now) + 1

abbrev pub decreases-if_shape : goal.decreases-if_shape
decreases-if_shape l = max (the_size l.c.now) (max (the_size l.a.now) (the_size l.b.now)) + 1

abbrev pub decreases-match_shape : goal.decreases-match_shape
decreases-match_shape l = max (the_size l.l.now) (max (the_size l.a.now) (the_size l.b.now)) + 1

abbrev pub decreases-shapes_of : goal.decreases-shapes_of
decreases-shapes_of l = goal.size-shapes_of l + 1

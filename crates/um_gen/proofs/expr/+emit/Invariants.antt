use Rattle.std.proofs.Common.{◌+◌, max}
use Rattle.um_tree.proofs.expression.Expr.TheLaws.{the_size}
use Rattle.um_gen.proofs.EachEmitted.{IsLeft}
use Rattle.um_gen.proofs.expr.+emit.Given as goal

abbrev pub invariant-emit_all-loop-i : goal.invariant-emit_all-loop-i
invariant-emit_all-loop-i l =
    IsLeft l.fn.out.places.items l.depth l.fn.out.ops.items l.parts l.i l.out.ops.items l.out.places.items

abbrev pub decreases-emit_all : goal.decreases-emit_all
decreases-emit_all l = goal.size-emit_all l + 1

abbrev pub decreases-emit_one : goal.decreases-emit_one
decreases-emit_one l = the_size l.a.now + 1

abbrev pub decreases-emit_two : goal.decreases-emit_two
decreases-emit_two l = max (the_size l.a.now) (the_size l.b.now) + 1

abbrev pub decreases-emit_compare : goal.decreases-emit_compare
decreases-emit_compare l = max (the_size l.a.now) (the_size l.b.now) + 1

abbrev pub decreases-emit_and : goal.decreases-emit_and
decreases-emit_and l = max (the_size l.a.now) (the_size l.b.now) + 1

abbrev pub decreases-emit_or : goal.decreases-emit_or
decreases-emit_or l = max (the_size l.a.now) (the_size l.b.now) + 1

abbrev pub decreases-emit_let : goal.decreases-emit_let
decreases-emit_let l = max (the_size l.a.now) (the_size l.b.now) + 1

abbrev pub decreases-emit_if : goal.decreases-emit_if
decreases-emit_if l = max (the_size l.c.now) (max (the_size l.a.now) (the_size l.b.now)) + 1

abbrev pub decreases-emit_match : goal.decreases-emit_match
decreases-emit_match l = max (the_size l.l.now) (max (the_size l.a.now) (the_size l.b.now)) + 1

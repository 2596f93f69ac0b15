use Rattle.std.proofs.Common.{◌+◌, ◌*◌, map, max}
use Rattle.um_tree.specs.ProgramTree.{record_tree}
use Rattle.um_tree.proofs.expression.Expr.TheLaws.{the_size}
use Rattle.um_slots.specs.Contexts.{callee_in}
use Rattle.um_slots.proofs.SlotsLeft.{SlotsLeft}
use Rattle.um_slots.proofs.expressions.+slots.Given as goal

abbrev pub invariant-exprs_slots-loop-i : goal.invariant-exprs_slots-loop-i
invariant-exprs_slots-loop-i l =
    SlotsLeft (map record_tree l.environment.records.now) (callee_in l.environment) l.fn.slots l.parts l.i l.slots

abbrev pub decreases-expr_slots : goal.decreases-expr_slots
decreases-expr_slots l = 4 * the_size l.e.now

abbrev pub decreases-pair_slots : goal.decreases-pair_slots
decreases-pair_slots l = max (4 * the_size l.a.now) (4 * the_size l.b.now) + 1

abbrev pub decreases-use_slots : goal.decreases-use_slots
decreases-use_slots l = 4 * goal.size-use_slots l + 2

abbrev pub decreases-exprs_slots : goal.decreases-exprs_slots
decreases-exprs_slots l = 4 * goal.size-exprs_slots l + 1

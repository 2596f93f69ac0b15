use Rattle.std.proofs.Common.{◌+◌, ◌*◌, max}
use Rattle.um_tree.proofs.expression.Expr.TheLaws.{the_size}
use Rattle.um_agree.proofs.AskedLeft.{IsLeft}
use Rattle.um_agree.proofs.walk.+walk.Given as goal

abbrev pub invariant-ask_all-loop-i : goal.invariant-ask_all-loop-i
invariant-ask_all-loop-i l = IsLeft l.fn.found.nodes l.fn.found.asked.items l.parts l.i l.found.nodes l.found.asked.items l.ends.items

abbrev pub decreases-ask : goal.decreases-ask
decreases-ask l = 4 * the_size l.e.now + 1

abbrev pub decreases-ask_parts : goal.decreases-ask_parts
decreases-ask_parts l = 4 * the_size l.e.now

abbrev pub decreases-ask_one : goal.decreases-ask_one
decreases-ask_one l = 4 * the_size l.e.now + 2

abbrev pub decreases-ask_pair : goal.decreases-ask_pair
decreases-ask_pair l = max (4 * the_size l.a.now) (4 * the_size l.b.now) + 2

abbrev pub decreases-ask_each : goal.decreases-ask_each
decreases-ask_each l = 4 * goal.size-ask_each l + 3

abbrev pub decreases-ask_all : goal.decreases-ask_all
decreases-ask_all l = 4 * goal.size-ask_all l + 2

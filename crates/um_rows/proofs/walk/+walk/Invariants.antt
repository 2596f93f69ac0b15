use Rattle.std.proofs.Common.{◌+◌, ◌*◌, max, map}
use Rattle.um_tree.proofs.expression.Expr.TheLaws.{the_size}
use Rattle.um_rows.specs.NodeTypes.{typed_node}
use Rattle.um_rows.proofs.WalkedParts.{IsLeft}
use Rattle.um_rows.proofs.walk.+walk.Given as goal

abbrev pub invariant-derive_all-loop-i : goal.invariant-derive_all-loop-i
invariant-derive_all-loop-i l =
    IsLeft l.walk.records.now l.walk.schemes.now l.walk.context l.walk.keep (map typed_node l.fn.state.kept.items) l.fn.state.progress.rows.items l.fn.state.progress.holes l.fn.state.scope.items l.parts l.i l.types.items l.state.scope.items l.state.progress (map typed_node l.state.kept.items)

abbrev pub decreases-derive : goal.decreases-derive
decreases-derive l = 5 * the_size l.e.now + 2

abbrev pub decreases-derive_kept : goal.decreases-derive_kept
decreases-derive_kept l = 5 * the_size l.e.now + 1

abbrev pub decreases-derive_node : goal.decreases-derive_node
decreases-derive_node l = 5 * the_size l.e.now

abbrev pub decreases-derive_unary : goal.decreases-derive_unary
decreases-derive_unary l = 5 * the_size l.a.now + 3

abbrev pub decreases-derive_pair : goal.decreases-derive_pair
decreases-derive_pair l = max (5 * the_size l.a.now) (5 * the_size l.b.now) + 3

abbrev pub decreases-derive_binary : goal.decreases-derive_binary
decreases-derive_binary l = max (5 * the_size l.a.now) (5 * the_size l.b.now) + 4

abbrev pub decreases-derive_if : goal.decreases-derive_if
decreases-derive_if l = max (5 * the_size l.c.now) (max (5 * the_size l.a.now) (5 * the_size l.b.now)) + 4

abbrev pub decreases-derive_let : goal.decreases-derive_let
decreases-derive_let l = max (5 * the_size l.a.now) (5 * the_size l.b.now) + 3

abbrev pub decreases-derive_match : goal.decreases-derive_match
decreases-derive_match l = max (5 * the_size l.l.now) (max (5 * the_size l.a.now) (5 * the_size l.b.now)) + 4

abbrev pub decreases-derive_full : goal.decreases-derive_full
decreases-derive_full l = 5 * the_size l.e.now + 3

abbrev pub decreases-derive_call : goal.decreases-derive_call
decreases-derive_call l = 5 * goal.size-derive_call l + 4

abbrev pub decreases-derive_list : goal.decreases-derive_list
decreases-derive_list l = 5 * goal.size-derive_list l + 4

abbrev pub decreases-derive_record : goal.decreases-derive_record
decreases-derive_record l = 5 * goal.size-derive_record l + 4

abbrev pub decreases-derive_all : goal.decreases-derive_all
decreases-derive_all l = 5 * goal.size-derive_all l + 3

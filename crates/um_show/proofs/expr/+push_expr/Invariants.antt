use Rattle.std.proofs.Common.{◌≡◌, ◌+◌, ◌++◌, max, take, codes}
use Rattle.um_tree.proofs.raw.RawExpr.TheLaws.{the_size}
use Rattle.std.specs.List.{flat_map, join_by}
use Rattle.um_tree.specs.RawTree.{expr_syntax, field_part}
use Rattle.um_show.specs.Pieces.{text_of}
use Rattle.um_show.specs.Layout.{expr_pieces}
use Rattle.um_show.specs.Lists.{part_text}
use Rattle.um_show.proofs.expr.+push_expr.Given as goal

abbrev pub invariant-push_arguments-loop-i : goal.invariant-push_arguments-loop-i
invariant-push_arguments-loop-i l = l.text.items ≡ l.initial.text.items ++ flat_map (λ e. codes " " ++ text_of (expr_pieces (expr_syntax e))) (take l.i l.items)

abbrev pub invariant-push_items-loop-i : goal.invariant-push_items-loop-i
invariant-push_items-loop-i l = l.text.items ≡ l.initial.text.items ++ join_by (λ e. text_of (expr_pieces (expr_syntax e))) (codes "; ") (take l.i l.items)

abbrev pub invariant-push_fields-loop-i : goal.invariant-push_fields-loop-i
invariant-push_fields-loop-i l = l.text.items ≡ l.initial.text.items ++ join_by (λ f. part_text (field_part f)) (codes "; ") (take l.i l.fields)

abbrev pub decreases-push_infix : goal.decreases-push_infix
decreases-push_infix l = max (the_size l.a.now) (the_size l.b.now) + 1

abbrev pub decreases-push_let : goal.decreases-push_let
decreases-push_let l = max (the_size l.a.now) (the_size l.b.now) + 1

abbrev pub decreases-push_if : goal.decreases-push_if
decreases-push_if l = max (the_size l.c.now) (max (the_size l.a.now) (the_size l.b.now)) + 1

abbrev pub decreases-push_match : goal.decreases-push_match
decreases-push_match l = max (the_size l.l.now) (max (the_size l.a.now) (the_size l.b.now)) + 1

abbrev pub decreases-push_access : goal.decreases-push_access
decreases-push_access l = the_size l.a.now + 1

abbrev pub decreases-push_pown : goal.decreases-push_pown
decreases-push_pown l = the_size l.a.now + 1

abbrev pub decreases-push_bracketed : goal.decreases-push_bracketed
decreases-push_bracketed l = the_size l.a.now + 1

abbrev pub decreases-push_arguments : goal.decreases-push_arguments
decreases-push_arguments l = goal.size-push_arguments l + 1

abbrev pub decreases-push_call : goal.decreases-push_call
decreases-push_call l = goal.size-push_call l + 2

abbrev pub decreases-push_items : goal.decreases-push_items
decreases-push_items l = goal.size-push_items l + 1

abbrev pub decreases-push_list : goal.decreases-push_list
decreases-push_list l = goal.size-push_list l + 2

abbrev pub decreases-push_fields : goal.decreases-push_fields
decreases-push_fields l = goal.size-push_fields l + 1

abbrev pub decreases-push_record : goal.decreases-push_record
decreases-push_record l = goal.size-push_record l + 2

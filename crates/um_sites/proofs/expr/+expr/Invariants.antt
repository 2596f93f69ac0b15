use Rattle.std.proofs.Common.{◌≡◌, ◌+◌, ◌++◌, max, map, drop}
use Rattle.um_tree.proofs.raw.RawExpr.TheLaws.{the_size}
use Rattle.um_tree.specs.RawTree.{decl_syntax, whole_function_syntax, expr_syntax, exprs_in_order, field_part, fields_in_order}
use Rattle.um_sites.specs.Sites.{exprs_told, fields_told}
use Rattle.um_sites.proofs.expr.+expr.Given as goal

abbrev pub invariant-exprs-loop-i : goal.invariant-exprs-loop-i
invariant-exprs-loop-i l = record {
  told : l.told.items ++ exprs_told l.body.asked.now.fault (map decl_syntax l.body.asked.now.before.now) (whole_function_syntax l.body.function.now) l.fn.scope.items (exprs_in_order (map expr_syntax (drop l.i l.items)))
      ≡ l.fn.told.items ++ exprs_told l.body.asked.now.fault (map decl_syntax l.body.asked.now.before.now) (whole_function_syntax l.body.function.now) l.fn.scope.items (exprs_in_order (map expr_syntax l.items));
  scope : l.scope.items ≡ l.fn.scope.items;
}

abbrev pub invariant-all_fields-loop-i : goal.invariant-all_fields-loop-i
invariant-all_fields-loop-i l = record {
  told : l.told.items ++ fields_told l.body.asked.now.fault (map decl_syntax l.body.asked.now.before.now) (whole_function_syntax l.body.function.now) l.fn.scope.items (fields_in_order (map field_part (drop l.i l.fields)))
      ≡ l.fn.told.items ++ fields_told l.body.asked.now.fault (map decl_syntax l.body.asked.now.before.now) (whole_function_syntax l.body.function.now) l.fn.scope.items (fields_in_order (map field_part l.fields));
  scope : l.scope.items ≡ l.fn.scope.items;
}

-- Twice the size of what is read, and how many calls a function is away from one with a smaller part.

abbrev pub decreases-expr : goal.decreases-expr
decreases-expr l = the_size l.e.now + the_size l.e.now

abbrev pub decreases-two : goal.decreases-two
decreases-two l = max (the_size l.a.now) (the_size l.b.now) + max (the_size l.a.now) (the_size l.b.now) + 1

abbrev pub decreases-three : goal.decreases-three
decreases-three l =
    let size = max (the_size l.c.now) (max (the_size l.a.now) (the_size l.b.now)) in
    size + size + 2

abbrev pub decreases-call : goal.decreases-call
decreases-call l = goal.size-call l + goal.size-call l + 2

abbrev pub decreases-rest : goal.decreases-rest
decreases-rest l = the_size l.b.now + the_size l.b.now + 1

abbrev pub decreases-bind : goal.decreases-bind
decreases-bind l = max (the_size l.a.now) (the_size l.b.now) + max (the_size l.a.now) (the_size l.b.now) + 2

abbrev pub decreases-arm : goal.decreases-arm
decreases-arm l = the_size l.b.now + the_size l.b.now + 2

abbrev pub decreases-exprs : goal.decreases-exprs
decreases-exprs l = goal.size-exprs l + goal.size-exprs l + 1

abbrev pub decreases-record_text : goal.decreases-record_text
decreases-record_text l = goal.size-record_text l + goal.size-record_text l + 2

abbrev pub decreases-all_fields : goal.decreases-all_fields
decreases-all_fields l = goal.size-all_fields l + goal.size-all_fields l + 1

abbrev pub decreases-field : goal.decreases-field
decreases-field l = goal.size-field l + goal.size-field l

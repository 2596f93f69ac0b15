use Rattle.std.proofs.Common.{rules, ◌≡◌, map, ap, arith}
use Rattle.um_tree.specs.RawTree.{expr_syntax, exprs_in_order}
use Rattle.um_tree.specs.Heights.{expr_height, tallest_expr}
use Rattle.um_operands.specs.ExprHeights.{notes_in, notes_in_all}
use Rattle.um_operands.proofs.ExprLists.{items_more}
use Rattle.um_operands.proofs.operands.Operands.with_room.Goals as goal

pub invariant_of-result : goal.invariant_of-result
invariant_of-result c =
    let item : c.replace.result ≡ c.args.last.tree.value = search rules in
    let same = ap expr_syntax item in
    let more = items_more c.args.self.items.items c.replace.result in
    record {
      exact = omega (arith, c.higher-height.ensures, c.args.self.exact, c.args.last.exact, more.0, ap expr_height same, ap (λ w. tallest_expr (exprs_in_order (map expr_syntax w))) c.in-Ok.ensures);
      low = omega (arith, c.args.self.low, c.args.last.low, more.1, ap notes_in same, ap (λ w. notes_in_all (exprs_in_order (map expr_syntax w))) c.in-Ok.ensures);
    }

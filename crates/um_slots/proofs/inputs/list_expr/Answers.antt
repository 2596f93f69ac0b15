use Rattle.std.proofs.Common.{rules, arith, ◌≡◌, ◌<◌, length, map, sym}
use Rattle.std.proofs.lemmas.Bool.Decides.{nat_tests}
use Rattle.um_tree.specs.declared.expression.Expr.{the_lemmas}
use Rattle.um_tree.specs.TypeTree.{shape_tree}
use Rattle.um_tree.specs.ExprTree.{list_expr, expr_tree, in_order}
use Rattle.um_tree.specs.ProgramTree.{record_tree}
use Rattle.um_slots.specs.CallFunction.{open_note, list_of}
use Rattle.um_slots.proofs.InputLoops.{list-some}
use Rattle.um_slots.proofs.inputs.list_expr.Goals as goal

pub returns : goal.returns
returns c =
    let note = open_note (map record_tree c.args.records.now) (shape_tree c.args.shape.now) in
    let items = c.args.items.items in
    let some : 0 < length items = grind (arith, nat_tests) in
    let whole : list_expr 0 (in_order (map expr_tree items)) ≡ list_of note (in_order (map expr_tree items)) = sym (list-some note items some) in
    search (rules, whole, the_lemmas)

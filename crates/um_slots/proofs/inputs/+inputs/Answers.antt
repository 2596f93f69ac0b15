use Rattle.std.proofs.Common.{◌≡◌, ◌+◌, ◌<◌, length, map, ◌++◌, ◌∷◌, [], subst, sym, ap, ◌∙◌, arith, rules}
use Rattle.std.specs.Prelude.{IfOk}
use Rattle.um_tree.specs.declared.value.Input.{the_lemmas as the_input_lemmas}
use Rattle.um_tree.specs.TypeTree.{shape_tree}
use Rattle.um_tree.specs.ExprTree.{ExprTree, expr_tree, in_order}
use Rattle.um_tree.specs.ProgramTree.{record_tree}
use Rattle.um_tree.specs.ValueTree.{list_input, input_tree, inputs_in_order}
use Rattle.um_slots.specs.CallFunction.{open_note, item_shape, list_of, input_text, item_texts}
use Rattle.um_slots.proofs.InputLoops.{ItemsLeft, TextsLeft, items_next, items_last, texts_next, texts_last}
use Rattle.um_slots.proofs.inputs.+inputs.Goals as goal

pub input_exprs-loop-i-preserved : goal.input_exprs-loop-i-preserved
input_exprs-loop-i-preserved t c =
    let records = map record_tree c.args.records.now in
    let inputs = c.args.inputs.now in
    let shapes = c.args.shapes.now in
    let i = c.loop-i.i in
    let e = c.in_ok-input_expr.field-0 in
    let below : i < length inputs = omega (arith, c.loop-i-test.true) in
    let made = subst (λ s. expr_tree e ≡ input_text records s (input_tree c.index-inputs-i.result)) c.shape_at.ensures c.in_ok-input_expr.ensures in
    let items : c.push.new.self.items ≡ c.loop-i.items.items ++ e ∷ [] = search rules in
    subst (TextsLeft records shapes inputs (i + 1)) (sym items) (texts_next records shapes inputs i c.index-inputs-i.result c.loop-i.items.items e below c.index-inputs-i.is c.loop-i.invariant made)

pub input_exprs-returns : goal.input_exprs-returns
input_exprs-returns t c = texts_last (map record_tree c.args.records.now) c.args.shapes.now c.args.inputs.now c.loop-i.i c.loop-i.items.items (omega (arith, c.loop-i-test.false)) c.loop-i.invariant

pub item_exprs-loop-i-preserved : goal.item_exprs-loop-i-preserved
item_exprs-loop-i-preserved t c =
    let records = map record_tree c.args.records.now in
    let inputs = c.args.inputs.now in
    let shape = shape_tree c.args.shape.now in
    let i = c.loop-i.i in
    let e = c.in_ok-input_expr.field-0 in
    let below : i < length inputs = omega (arith, c.loop-i-test.true) in
    let items : c.push.new.self.items ≡ c.loop-i.items.items ++ e ∷ [] = search rules in
    subst (ItemsLeft records shape inputs (i + 1)) (sym items) (items_next records shape inputs i c.index-inputs-i.result c.loop-i.items.items e below c.index-inputs-i.is c.loop-i.invariant c.in_ok-input_expr.ensures)

pub item_exprs-returns : goal.item_exprs-returns
item_exprs-returns t c = items_last (map record_tree c.args.records.now) (shape_tree c.args.shape.now) c.args.inputs.now c.loop-i.i c.loop-i.items.items (omega (arith, c.loop-i-test.false)) c.loop-i.invariant

pub input_expr-returns-in_ok-items-in-List : goal.input_expr-returns-in_ok-items-in-List
input_expr-returns-in_ok-items-in-List t c =
    let records = map record_tree c.args.records.now in
    let shape = shape_tree c.args.shape.now in
    let items = in_order (map expr_tree c.in_ok-items-in-List.items.items) in
    let inputs = inputs_in_order (map input_tree c.deref.result.now) in
    let seen : input_tree c.args.input.now ≡ list_input inputs = search (rules, the_input_lemmas) in
    let all : items ≡ item_texts records (item_shape shape) inputs = c.in_ok-items-in-List.ensures ∙ ap (λ s. item_texts records s inputs) c.item_shape.ensures in
    let whole : list_of (open_note records shape) items ≡ input_text records shape (input_tree c.args.input.now) = ap (list_of (open_note records shape)) all ∙ ap (input_text records shape) (sym seen) in
    subst (λ (text : ExprTree). IfOk c.list_expr.result (λ e. expr_tree e ≡ text)) whole c.list_expr.ensures

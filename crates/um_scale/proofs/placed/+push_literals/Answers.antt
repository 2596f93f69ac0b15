use Rattle.std.proofs.Common.{rules, ap, ◌∙◌, ◌++◌, append_assoc}
use Rattle.std.proofs.lemmas.Result.{on_ok_weaker}
use Rattle.um_tree.specs.ExprTree.{expr_tree}
use Rattle.um_tree.specs.declared.expression.Expr.{the_lemmas}
use Rattle.um_scale.specs.RescaledText.{literals}
use Rattle.um_scale.proofs.placed.+push_literals.Goals as goal

pub push_two-returns : goal.push_two-returns
push_two-returns t c =
    let before = c.args.found.now.items in
    let first = literals (expr_tree c.args.a.now) in
    let second = literals (expr_tree c.args.b.now) in
    on_ok_weaker c.push_literals-2.result (λ e. e ∙ ap (λ xs. xs ++ second) c.in_ok-push_literals.ensures ∙ append_assoc before first second) c.push_literals-2.ensures

pub push_three-returns : goal.push_three-returns
push_three-returns t c =
    let before = c.args.found.now.items in
    let first = literals (expr_tree c.args.a.now) in
    let others = literals (expr_tree c.args.b.now) ++ literals (expr_tree c.args.c.now) in
    on_ok_weaker c.push_two.result (λ e. e ∙ ap (λ xs. xs ++ others) c.in_ok-push_literals.ensures ∙ append_assoc before first others) c.push_two.ensures

pub push_literals-push_three-requires : goal.push_literals-push_three-requires
push_literals-push_three-requires t c = search (rules, the_lemmas)

pub push_literals-push_two-requires : goal.push_literals-push_two-requires
push_literals-push_two-requires t c = search (rules, the_lemmas)

pub push_literals-push_literals-requires : goal.push_literals-push_literals-requires
push_literals-push_literals-requires t c = search (rules, the_lemmas)

pub push_literals-push_each-requires : goal.push_literals-push_each-requires
push_literals-push_each-requires t c = search (rules, the_lemmas)

pub push_literals-returns-in-Num : goal.push_literals-returns-in-Num
push_literals-returns-in-Num t c = search (rules, the_lemmas)

pub push_literals-returns-in-Bool : goal.push_literals-returns-in-Bool
push_literals-returns-in-Bool t c = search (rules, the_lemmas)

pub push_literals-returns-in-Bool-2 : goal.push_literals-returns-in-Bool-2
push_literals-returns-in-Bool-2 t c = search (rules, the_lemmas)

pub push_literals-returns-in-Bool-3 : goal.push_literals-returns-in-Bool-3
push_literals-returns-in-Bool-3 t c = search (rules, the_lemmas)

pub push_literals-returns-in-If : goal.push_literals-returns-in-If
push_literals-returns-in-If t c = search (rules, the_lemmas)

pub push_literals-returns-in-Arith : goal.push_literals-returns-in-Arith
push_literals-returns-in-Arith t c = search (rules, the_lemmas)

pub push_literals-returns-in-Neg : goal.push_literals-returns-in-Neg
push_literals-returns-in-Neg t c = search (rules, the_lemmas)

pub push_literals-returns-in-Call : goal.push_literals-returns-in-Call
push_literals-returns-in-Call t c = search (rules, the_lemmas)

pub push_each-push_literals-requires : goal.push_each-push_literals-requires
push_each-push_literals-requires t c = search (rules, the_lemmas)

use Rattle.std.proofs.Common.{rules, ◌≡◌, ◌∷◌, sym, subst, map, w32, SFits}
use Rattle.std.proofs.lemmas.Int.{to_z-of_z}
use Rattle.um_tree.specs.ExprTree.{truth, number, local, call, negate, not_expr, pown, arith, compare, both, either, if, bind, split, nil, list_expr, cons, record_expr, field, expr_tree, in_order}
use Rattle.um_tree.specs.TypeTree.{note_tree}
use Rattle.um_tree.specs.ProgramTree.{function_tree}
use Rattle.um_tree.specs.declared.expression.Expr.{the_lemmas}
use Rattle.um_eval.specs.declared.frame.Unary.TheVariants.{Power}
use Rattle.um_eval.specs.declared.frame.Frame.TheVariants.{Operand}
use Rattle.um_eval.specs.Variables.{own_of, callers_of}
use Rattle.um_eval.specs.Tasks.{Evaluate}
use Rattle.um_eval.specs.Progress.{Within, frames_of}
use Rattle.um_eval.proofs.Resuming.{later}
use Rattle.um_eval.proofs.Starting.{truth_given, number_given, nil_given, local_begun, call_begun, list_begun, record_begun, negate_begun, not_begun, power_begun, field_begun, arith_begun, compare_begun, cons_begun, and_begun, or_begun, test_begun, bound_begun, matched_begun}
use Rattle.um_eval.proofs.evaluator.Evaluator.evaluate.Goals as goal

pub returns-in-Bool : goal.returns-in-Bool
returns-in-Bool c = λ whole n h.
    let m = c.args.self.now in
    let fs = map function_tree c.args.functions.now in
    let e = c.args.e.now in
    let seen : expr_tree e ≡ truth e.at c.in-Bool.b = search (rules, the_lemmas) in
    c.give.ensures fs whole n (truth_given fs m.store (callers_of m.scope) (own_of m.scope) m.values.items m.budget (frames_of m) whole n e.at c.in-Bool.b c.args.e seen h)

pub returns-in-Num : goal.returns-in-Num
returns-in-Num c = λ whole n h.
    let m = c.args.self.now in
    let fs = map function_tree c.args.functions.now in
    let e = c.args.e.now in
    let seen : expr_tree e ≡ number e.at c.in-Num.c c.in-Num.field-1 = search (rules, the_lemmas) in
    c.give-in-Num.ensures fs whole n (number_given fs m.store (callers_of m.scope) (own_of m.scope) m.values.items m.budget (frames_of m) whole n e.at c.in-Num.c c.in-Num.field-1 c.args.e seen h)

pub returns-in-Nil : goal.returns-in-Nil
returns-in-Nil c = λ whole n h.
    let m = c.args.self.now in
    let fs = map function_tree c.args.functions.now in
    let e = c.args.e.now in
    let seen : expr_tree e ≡ nil e.at (note_tree c.in-Nil.field-0) = search (rules, the_lemmas) in
    c.give-in-Nil.ensures fs whole n (nil_given fs m.store (callers_of m.scope) (own_of m.scope) m.values.items m.budget (frames_of m) whole n e.at (note_tree c.in-Nil.field-0) c.args.e seen h)

pub returns-in-Local : goal.returns-in-Local
returns-in-Local c = λ whole n h.
    let m = c.args.self.now in
    let fs = map function_tree c.args.functions.now in
    let e = c.args.e.now in
    let seen : expr_tree e ≡ local e.at c.in-Local.k = search (rules, the_lemmas) in
    c.variable.ensures fs whole n (local_begun fs m.store (callers_of m.scope) (own_of m.scope) m.values.items m.budget (frames_of m) whole n e.at c.in-Local.k c.args.e seen h)

pub begin_items-requires : goal.begin_items-requires
begin_items-requires c =
    let m = c.args.self.now in
    let fs = map function_tree c.args.functions.now in
    let e = c.args.e.now in
    let seen : expr_tree e ≡ call e.at c.in-Call.j (in_order (map expr_tree c.deref.result.now)) = search (rules, the_lemmas) in
    let (whole, n, h) = c.requires in
    (whole, n, call_begun fs m.store (callers_of m.scope) (own_of m.scope) m.values.items m.budget (frames_of m) whole n e.at c.in-Call.j (in_order (map expr_tree c.deref.result.now)) c.args.e seen (later fs m.store (callers_of m.scope) (own_of m.scope) m.values.items m.budget (frames_of m) whole (Evaluate c.args.e) n h))

pub returns-in-Call : goal.returns-in-Call
returns-in-Call c = λ whole n h.
    let m = c.args.self.now in
    let fs = map function_tree c.args.functions.now in
    let e = c.args.e.now in
    let seen : expr_tree e ≡ call e.at c.in-Call.j (in_order (map expr_tree c.deref.result.now)) = search (rules, the_lemmas) in
    c.begin_items.ensures whole n (call_begun fs m.store (callers_of m.scope) (own_of m.scope) m.values.items m.budget (frames_of m) whole n e.at c.in-Call.j (in_order (map expr_tree c.deref.result.now)) c.args.e seen h)

pub begin_items-requires-in-List : goal.begin_items-requires-in-List
begin_items-requires-in-List c =
    let m = c.args.self.now in
    let fs = map function_tree c.args.functions.now in
    let e = c.args.e.now in
    let seen : expr_tree e ≡ list_expr e.at (in_order (map expr_tree c.deref-in-List.result.now)) = search (rules, the_lemmas) in
    let (whole, n, h) = c.requires in
    (whole, n, list_begun fs m.store (callers_of m.scope) (own_of m.scope) m.values.items m.budget (frames_of m) whole n e.at (in_order (map expr_tree c.deref-in-List.result.now)) c.args.e seen (later fs m.store (callers_of m.scope) (own_of m.scope) m.values.items m.budget (frames_of m) whole (Evaluate c.args.e) n h))

pub returns-in-List : goal.returns-in-List
returns-in-List c = λ whole n h.
    let m = c.args.self.now in
    let fs = map function_tree c.args.functions.now in
    let e = c.args.e.now in
    let seen : expr_tree e ≡ list_expr e.at (in_order (map expr_tree c.deref-in-List.result.now)) = search (rules, the_lemmas) in
    c.begin_items-in-List.ensures whole n (list_begun fs m.store (callers_of m.scope) (own_of m.scope) m.values.items m.budget (frames_of m) whole n e.at (in_order (map expr_tree c.deref-in-List.result.now)) c.args.e seen h)

pub begin_items-requires-in-Rec : goal.begin_items-requires-in-Rec
begin_items-requires-in-Rec c =
    let m = c.args.self.now in
    let fs = map function_tree c.args.functions.now in
    let e = c.args.e.now in
    let seen : expr_tree e ≡ record_expr e.at c.in-Rec.r (in_order (map expr_tree c.deref-in-Rec.result.now)) = search (rules, the_lemmas) in
    let (whole, n, h) = c.requires in
    (whole, n, record_begun fs m.store (callers_of m.scope) (own_of m.scope) m.values.items m.budget (frames_of m) whole n e.at c.in-Rec.r (in_order (map expr_tree c.deref-in-Rec.result.now)) c.args.e seen (later fs m.store (callers_of m.scope) (own_of m.scope) m.values.items m.budget (frames_of m) whole (Evaluate c.args.e) n h))

pub returns-in-Rec : goal.returns-in-Rec
returns-in-Rec c = λ whole n h.
    let m = c.args.self.now in
    let fs = map function_tree c.args.functions.now in
    let e = c.args.e.now in
    let seen : expr_tree e ≡ record_expr e.at c.in-Rec.r (in_order (map expr_tree c.deref-in-Rec.result.now)) = search (rules, the_lemmas) in
    c.begin_items-in-Rec.ensures whole n (record_begun fs m.store (callers_of m.scope) (own_of m.scope) m.values.items m.budget (frames_of m) whole n e.at c.in-Rec.r (in_order (map expr_tree c.deref-in-Rec.result.now)) c.args.e seen h)

pub returns-in-Neg : goal.returns-in-Neg
returns-in-Neg c = λ whole n h.
    let m = c.args.self.now in
    let fs = map function_tree c.args.functions.now in
    let e = c.args.e.now in
    let seen : expr_tree e ≡ negate e.at (expr_tree c.deref-in-Neg.result.now) = search (rules, the_lemmas) in
    c.begin.ensures fs whole n (negate_begun fs m.store (callers_of m.scope) (own_of m.scope) m.values.items m.budget (frames_of m) whole n e.at c.args.e c.deref-in-Neg.result seen h)

pub returns-in-Not : goal.returns-in-Not
returns-in-Not c = λ whole n h.
    let m = c.args.self.now in
    let fs = map function_tree c.args.functions.now in
    let e = c.args.e.now in
    let seen : expr_tree e ≡ not_expr e.at (expr_tree c.deref-in-Not.result.now) = search (rules, the_lemmas) in
    c.begin-in-Not.ensures fs whole n (not_begun fs m.store (callers_of m.scope) (own_of m.scope) m.values.items m.budget (frames_of m) whole n e.at c.args.e c.deref-in-Not.result seen h)

pub returns-in-Pow : goal.returns-in-Pow
returns-in-Pow c = λ whole n h.
    let m = c.args.self.now in
    let fs = map function_tree c.args.functions.now in
    let e = c.args.e.now in
    let x = c.deref-in-Pow.result in
    let k = c.in-Pow.k in
    let seen : expr_tree e ≡ pown e.at (expr_tree x.now) k = search (rules, the_lemmas) in
    let fits : SFits w32 k = search rules in
    c.begin-in-Pow.ensures fs whole n
    (subst (λ i. Within fs m (Operand (Power i e.at) ∷ frames_of m) (Evaluate x) whole n) (sym (to_z-of_z w32 k fits))
    (power_begun fs m.store (callers_of m.scope) (own_of m.scope) m.values.items m.budget (frames_of m) whole n e.at k c.args.e x seen h))

pub returns-in-Field : goal.returns-in-Field
returns-in-Field c = λ whole n h.
    let m = c.args.self.now in
    let fs = map function_tree c.args.functions.now in
    let e = c.args.e.now in
    let seen : expr_tree e ≡ field e.at c.in-Field.r c.in-Field.k (expr_tree c.deref-in-Field.result.now) = search (rules, the_lemmas) in
    c.begin-in-Field.ensures fs whole n (field_begun fs m.store (callers_of m.scope) (own_of m.scope) m.values.items m.budget (frames_of m) whole n e.at c.in-Field.r c.in-Field.k c.args.e c.deref-in-Field.result seen h)

pub returns-in-Arith : goal.returns-in-Arith
returns-in-Arith c = λ whole n h.
    let m = c.args.self.now in
    let fs = map function_tree c.args.functions.now in
    let e = c.args.e.now in
    let seen : expr_tree e ≡ arith e.at c.in-Arith.op (expr_tree c.deref-in-Arith-2.result.now) (expr_tree c.deref-in-Arith.result.now) = search (rules, the_lemmas) in
    c.begin-in-Arith.ensures fs whole n (arith_begun fs m.store (callers_of m.scope) (own_of m.scope) m.values.items m.budget (frames_of m) whole n e.at c.in-Arith.op c.args.e c.deref-in-Arith-2.result c.deref-in-Arith.result seen h)

pub returns-in-Compare : goal.returns-in-Compare
returns-in-Compare c = λ whole n h.
    let m = c.args.self.now in
    let fs = map function_tree c.args.functions.now in
    let e = c.args.e.now in
    let seen : expr_tree e ≡ compare e.at c.in-Compare.sign (expr_tree c.deref-in-Compare-2.result.now) (expr_tree c.deref-in-Compare.result.now) = search (rules, the_lemmas) in
    c.begin-in-Compare.ensures fs whole n (compare_begun fs m.store (callers_of m.scope) (own_of m.scope) m.values.items m.budget (frames_of m) whole n e.at c.in-Compare.sign c.args.e c.deref-in-Compare-2.result c.deref-in-Compare.result seen h)

pub returns-in-Cons : goal.returns-in-Cons
returns-in-Cons c = λ whole n h.
    let m = c.args.self.now in
    let fs = map function_tree c.args.functions.now in
    let e = c.args.e.now in
    let seen : expr_tree e ≡ cons e.at (expr_tree c.deref-in-Cons-2.result.now) (expr_tree c.deref-in-Cons.result.now) = search (rules, the_lemmas) in
    c.begin-in-Cons.ensures fs whole n (cons_begun fs m.store (callers_of m.scope) (own_of m.scope) m.values.items m.budget (frames_of m) whole n e.at c.args.e c.deref-in-Cons-2.result c.deref-in-Cons.result seen h)

pub returns-in-And : goal.returns-in-And
returns-in-And c = λ whole n h.
    let m = c.args.self.now in
    let fs = map function_tree c.args.functions.now in
    let e = c.args.e.now in
    let seen : expr_tree e ≡ both e.at (expr_tree c.deref-in-And-2.result.now) (expr_tree c.deref-in-And.result.now) = search (rules, the_lemmas) in
    c.begin-in-And.ensures fs whole n (and_begun fs m.store (callers_of m.scope) (own_of m.scope) m.values.items m.budget (frames_of m) whole n e.at c.args.e c.deref-in-And-2.result c.deref-in-And.result seen h)

pub returns-in-Or : goal.returns-in-Or
returns-in-Or c = λ whole n h.
    let m = c.args.self.now in
    let fs = map function_tree c.args.functions.now in
    let e = c.args.e.now in
    let seen : expr_tree e ≡ either e.at (expr_tree c.deref-in-Or-2.result.now) (expr_tree c.deref-in-Or.result.now) = search (rules, the_lemmas) in
    c.begin-in-Or.ensures fs whole n (or_begun fs m.store (callers_of m.scope) (own_of m.scope) m.values.items m.budget (frames_of m) whole n e.at c.args.e c.deref-in-Or-2.result c.deref-in-Or.result seen h)

pub returns-in-If : goal.returns-in-If
returns-in-If c = λ whole n h.
    let m = c.args.self.now in
    let fs = map function_tree c.args.functions.now in
    let e = c.args.e.now in
    let seen : expr_tree e ≡ if e.at (expr_tree c.deref-in-If-3.result.now) (expr_tree c.deref-in-If.result.now) (expr_tree c.deref-in-If-2.result.now) = search (rules, the_lemmas) in
    c.begin-in-If.ensures fs whole n (test_begun fs m.store (callers_of m.scope) (own_of m.scope) m.values.items m.budget (frames_of m) whole n e.at c.args.e c.deref-in-If-3.result c.deref-in-If.result c.deref-in-If-2.result seen h)

pub returns-in-Let : goal.returns-in-Let
returns-in-Let c = λ whole n h.
    let m = c.args.self.now in
    let fs = map function_tree c.args.functions.now in
    let e = c.args.e.now in
    let seen : expr_tree e ≡ bind e.at (expr_tree c.deref-in-Let-2.result.now) (expr_tree c.deref-in-Let.result.now) = search (rules, the_lemmas) in
    c.begin-in-Let.ensures fs whole n (bound_begun fs m.store (callers_of m.scope) (own_of m.scope) m.values.items m.budget (frames_of m) whole n e.at c.args.e c.deref-in-Let-2.result c.deref-in-Let.result seen h)

pub returns-in-Match : goal.returns-in-Match
returns-in-Match c = λ whole n h.
    let m = c.args.self.now in
    let fs = map function_tree c.args.functions.now in
    let e = c.args.e.now in
    let seen : expr_tree e ≡ split e.at (expr_tree c.deref-in-Match-3.result.now) (expr_tree c.deref-in-Match.result.now) (expr_tree c.deref-in-Match-2.result.now) = search (rules, the_lemmas) in
    c.begin-in-Match.ensures fs whole n (matched_begun fs m.store (callers_of m.scope) (own_of m.scope) m.values.items m.budget (frames_of m) whole n e.at c.args.e c.deref-in-Match-3.result c.deref-in-Match.result c.deref-in-Match-2.result seen h)

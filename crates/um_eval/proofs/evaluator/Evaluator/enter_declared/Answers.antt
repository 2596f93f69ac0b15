use Rattle.std.proofs.Common.{◌≡◌, ◌-◌, ◌∙◌, ap, sym, refl, length, take, drop, arith, Bor}
use Rattle.std.proofs.lemmas.List.{length-map, length-drop, take_rest}
use Rattle.um_tree.specs.declared.expression.Expr.{Expr}
use Rattle.um_tree.specs.TypeTree.{note_tree}
use Rattle.um_tree.specs.ProgramTree.{function_tree}
use Rattle.um_eval.specs.Variables.{own_of, callers_of}
use Rattle.um_eval.specs.Progress.{frames_of}
use Rattle.um_eval.proofs.Resuming.{other_count_leads, no_budget_leads, body_leads}
use Rattle.um_eval.proofs.evaluator.Evaluator.enter_declared.Goals as goal

pub returns-then-count-len : goal.returns-then-count-len
returns-then-count-len c = λ fs whole n e h.
    let m = c.args.self.now in
    let f = function_tree c.args.function.now in
    let there : c.len.result - c.args.first ≡ length (drop c.args.first m.values.items) = omega (arith, length-drop c.args.first m.values.items, c.len.ensures, m.values.ok.0) in
    let asked : c.len-2.result ≡ length f.params = omega (arith, length-map c.args.function.now.params.items.items note_tree, c.len-2.ensures, c.args.function.now.params.items.ok.0) in
    other_count_leads fs m.store (callers_of m.scope) (own_of m.scope) m.values.items m.budget (frames_of m) whole c.args.j c.args.at c.args.first n f e (λ same. c.if-count-len.true (there ∙ same ∙ sym asked)) h

pub returns-then-self-eq0 : goal.returns-then-self-eq0
returns-then-self-eq0 c = λ fs whole n e h.
    let m = c.args.self.now in
    let f = function_tree c.args.function.now in
    let there : c.len.result - c.args.first ≡ length (drop c.args.first m.values.items) = omega (arith, length-drop c.args.first m.values.items, c.len.ensures, m.values.ok.0) in
    let asked : c.len-2.result ≡ length f.params = omega (arith, length-map c.args.function.now.params.items.items note_tree, c.len-2.ensures, c.args.function.now.params.items.ok.0) in
    no_budget_leads fs m.store (callers_of m.scope) (own_of m.scope) m.values.items m.budget (frames_of m) whole c.args.j c.args.at c.args.first n f e (sym there ∙ c.if-count-len.false ∙ asked) c.if-self-eq0.true h

pub returns-in-Ok : goal.returns-in-Ok
returns-in-Ok c = λ fs whole n e h.
    let m = c.args.self.now in
    let f = function_tree c.args.function.now in
    let there : c.len.result - c.args.first ≡ length (drop c.args.first m.values.items) = omega (arith, length-drop c.args.first m.values.items, c.len.ensures, m.values.ok.0) in
    let asked : c.len-2.result ≡ length f.params = omega (arith, length-map c.args.function.now.params.items.items note_tree, c.len-2.ensures, c.args.function.now.params.items.ok.0) in
    let body : Bor Expr = record { ref_ptr = c.args.function.ref_ptr; now = c.args.function.now.body } in
    let same : take (length c.deref.result.now - c.args.first) (drop c.args.first c.deref.result.now) ≡ drop c.args.first m.values.items = take_rest c.deref.result.now c.args.first ∙ ap (drop c.args.first) c.deref.ensures.value in
    let (fits, callers, outer, own) = c.in-Ok.ensures in
    c.begin.ensures fs whole n
    (body_leads fs m.store (callers_of m.scope) (own_of m.scope) m.values.items m.budget (frames_of m) whole c.args.j c.args.at c.args.first n f body (callers_of c.open.new.self) (own_of c.open.new.self) c.truncate.new.self.items c.in-Ok.base e (sym there ∙ c.if-count-len.false ∙ asked) refl (omega arith)
    fits callers outer (own ∙ same) c.truncate.ensures.items h)

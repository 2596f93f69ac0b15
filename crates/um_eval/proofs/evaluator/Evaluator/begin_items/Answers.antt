use Rattle.std.proofs.Common.{◌≡◌, ◌∙◌, sym, subst, map, length}
use Rattle.um_tree.specs.ExprTree.{expr_tree, in_order}
use Rattle.um_tree.specs.ProgramTree.{function_tree}
use Rattle.um_eval.specs.Progress.{Collects}
use Rattle.um_eval.proofs.evaluator.Evaluator.begin_items.Goals as goal

pub collect-requires : goal.collect-requires
collect-requires c =
    let m = c.args.self.now in
    let fs = map function_tree c.args.functions.now in
    let (whole, n, h) = c.requires in
    let same : c.len-first.result ≡ length m.values.items = c.len-first.ensures ∙ m.values.ok.0 in
    (whole, n, subst (λ k. Collects fs m c.args.c (in_order (map expr_tree c.args.items.now)) k whole n) (sym same) h)

pub returns : goal.returns
returns c = λ whole n h.
    let m = c.args.self.now in
    let fs = map function_tree c.args.functions.now in
    let same : c.len-first.result ≡ length m.values.items = c.len-first.ensures ∙ m.values.ok.0 in
    c.collect.ensures whole n (subst (λ k. Collects fs m c.args.c (in_order (map expr_tree c.args.items.now)) k whole n) (sym same) h)

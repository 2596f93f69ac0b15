use Rattle.std.proofs.Common.{map, subst}
use Rattle.std.proofs.lemmas.List.{nil_from_length}
use Rattle.um_tree.specs.ExprTree.{expr_tree, in_order}
use Rattle.um_tree.specs.ProgramTree.{function_tree}
use Rattle.um_eval.specs.Variables.{own_of, callers_of}
use Rattle.um_eval.specs.Progress.{Collects, frames_of}
use Rattle.um_eval.proofs.Resuming.{next_item, all_there}
use Rattle.um_eval.proofs.evaluator.Evaluator.collect.Goals as goal

pub returns-in-Some : goal.returns-in-Some
returns-in-Some c = λ whole n h.
    let m = c.args.self.now in
    let fs = map function_tree c.args.functions.now in
    let at = subst (λ es. Collects fs m c.args.c (in_order (map expr_tree es)) c.args.first whole n) c.in-Some.ensures.cases.0 h in
    c.begin.ensures fs whole n (next_item fs m.store (callers_of m.scope) (own_of m.scope) m.values.items m.budget (frames_of m) whole c.args.c c.args.first n c.in-Some.item c.in-Some.behind at)

pub make-requires : goal.make-requires
make-requires c =
    let m = c.args.self.now in
    let fs = map function_tree c.args.functions.now in
    let (whole, n, h) = c.requires in
    (whole, n, all_there fs m.store (callers_of m.scope) (own_of m.scope) m.values.items m.budget (frames_of m) whole c.args.c c.args.first n (subst (λ es. Collects fs m c.args.c (in_order (map expr_tree es)) c.args.first whole n) (nil_from_length c.args.rest.now c.in-None.ensures.cases) h))

pub returns-in-None : goal.returns-in-None
returns-in-None c = λ whole n h.
    let m = c.args.self.now in
    let fs = map function_tree c.args.functions.now in
    c.make.ensures whole n (all_there fs m.store (callers_of m.scope) (own_of m.scope) m.values.items m.budget (frames_of m) whole c.args.c c.args.first n (subst (λ es. Collects fs m c.args.c (in_order (map expr_tree es)) c.args.first whole n) (nil_from_length c.args.rest.now c.in-None.ensures.cases) h))

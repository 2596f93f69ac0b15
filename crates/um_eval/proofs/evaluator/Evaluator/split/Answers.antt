use Rattle.std.proofs.Common.{◌∷◌, Some, subst, sym}
use Rattle.um_tree.specs.ValueTree.{ValueTree}
use Rattle.um_cells.specs.Stores.{DenotesIn}
use Rattle.um_cells.specs.Operations.{TakenApart}
use Rattle.um_eval.specs.declared.frame.Frame.TheVariants.{Inner}
use Rattle.um_eval.specs.Variables.{own_of, callers_of}
use Rattle.um_eval.specs.Tasks.{Evaluate}
use Rattle.um_eval.specs.Progress.{Leads, frames_of}
use Rattle.um_eval.proofs.Resuming.{no_list_leads, empty_leads, items_leads}
use Rattle.um_eval.proofs.evaluator.Evaluator.split.Goals as goal

pub returns-in-None : goal.returns-in-None
returns-in-None c = λ fs whole n h.
    let m = c.args.self.now in
    no_list_leads fs m.store (callers_of m.scope) (own_of m.scope) m.values.items m.budget (frames_of m) whole m.value n c.args.x c.args.y c.in-None.ensures h

pub returns-in-Some-Empty : goal.returns-in-Some-Empty
returns-in-Some-Empty c = λ fs whole n h.
    let m = c.args.self.now in
    let apart : (v : ValueTree) → DenotesIn m.store m.value v → TakenApart m.store v (Some _) = subst (λ o. (v : ValueTree) → DenotesIn m.store m.value v → TakenApart m.store v (Some o)) c.in-Some-Empty.field-0-is c.in-Some-Empty.ensures in
    empty_leads fs m.store (callers_of m.scope) (own_of m.scope) m.values.items m.budget (frames_of m) whole m.value n c.args.x c.args.y apart h

pub returns-in-Ok : goal.returns-in-Ok
returns-in-Ok c = λ fs whole n h.
    let m = c.args.self.now in
    let apart = subst (λ o. (v : ValueTree) → DenotesIn m.store m.value v → TakenApart m.store v (Some o)) c.in-Some-Items.field-0-is c.in-Some-Items.ensures in
    let scope = c.push_both.new.self in
    c.begin_inside.ensures fs whole n
    (subst (λ ws. Leads fs m.store ws (own_of scope) m.values.items m.budget (Inner c.len-outside.result ∷ frames_of m) (Evaluate c.args.y) whole n) (sym c.in-Ok.ensures.callers)
    (items_leads fs m.store (callers_of m.scope) (own_of m.scope) m.values.items m.budget (frames_of m) whole m.value n c.args.x c.args.y c.in-Some-Items.first c.in-Some-Items.others (own_of scope) c.len-outside.result c.in-Ok.ensures.own c.len-outside.ensures apart h))

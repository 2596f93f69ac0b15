use Rattle.std.proofs.Common.{◌∷◌, subst, sym}
use Rattle.um_eval.specs.declared.frame.Frame.TheVariants.{Inner}
use Rattle.um_eval.specs.Variables.{own_of, callers_of}
use Rattle.um_eval.specs.Tasks.{Evaluate}
use Rattle.um_eval.specs.Progress.{Leads, frames_of}
use Rattle.um_eval.proofs.Resuming.{bound_leads}
use Rattle.um_eval.proofs.evaluator.Evaluator.bind.Goals as goal

pub returns-in-Ok : goal.returns-in-Ok
returns-in-Ok c = λ fs whole n h.
    let m = c.args.self.now in
    c.begin_inside.ensures fs whole n
    (subst (λ ws. Leads fs m.store ws (own_of c.push.new.self) m.values.items m.budget (Inner c.len-outside.result ∷ frames_of m) (Evaluate c.args.y) whole n) (sym c.in-Ok.ensures.callers)
    (bound_leads fs m.store (callers_of m.scope) (own_of m.scope) m.values.items m.budget (frames_of m) whole m.value n c.args.y (own_of c.push.new.self) c.len-outside.result c.in-Ok.ensures.own c.len-outside.ensures h))

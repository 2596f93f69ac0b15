use Rattle.std.proofs.Common.{◌∙◌, subst, sym}
use Rattle.um_tree.specs.Meaning.{found, wrong}
use Rattle.um_eval.specs.Variables.{own_of, callers_of}
use Rattle.um_eval.specs.Progress.{frames_of, no_traces}
use Rattle.um_eval.specs.Frames.{Completes}
use Rattle.um_eval.proofs.Segments.{behind}
use Rattle.um_eval.proofs.Completing.{stopped}
use Rattle.um_eval.proofs.Resuming.{variable_there, variable_missing}
use Rattle.um_eval.proofs.evaluator.Evaluator.variable.Goals as goal

pub returns-in-Some : goal.returns-in-Some
returns-in-Some c = λ fs whole n h.
    let m = c.args.self.now in
    let (vars, d, k, l) = h in
    let (v, e, x) = variable_there m.store (own_of m.scope) vars c.args.k c.in-Some.word d (behind m.scope.words.items m.scope.base c.args.k ∙ sym c.in-Some.ensures) in
    c.give.ensures fs whole n ((vars, v, d, x, subst (λ o. Completes fs m.store (callers_of m.scope) m.values.items (frames_of m) vars (found o m.budget) no_traces whole) e k), l)

pub returns-in-None : goal.returns-in-None
returns-in-None c = λ fs whole n h.
    let m = c.args.self.now in
    let (vars, d, k, l) = h in
    let e = variable_missing m.store (own_of m.scope) vars c.args.k d (behind m.scope.words.items m.scope.base c.args.k ∙ sym c.in-None.ensures) in
    (stopped fs m.store (callers_of m.scope) m.values.items (frames_of m) vars wrong no_traces whole (subst (λ o. Completes fs m.store (callers_of m.scope) m.values.items (frames_of m) vars (found o m.budget) no_traces whole) e k), l)

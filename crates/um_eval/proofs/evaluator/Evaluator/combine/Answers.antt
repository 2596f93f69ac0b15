use Rattle.std.proofs.Common.{sym, subst, Some}
use Rattle.um_eval.specs.Variables.{own_of, callers_of}
use Rattle.um_eval.specs.Settling.{settled, given_operands}
use Rattle.um_eval.specs.Progress.{Leads, frames_of}
use Rattle.um_eval.proofs.Resuming.{left_value, right_value, right_leads}
use Rattle.um_eval.proofs.evaluator.Evaluator.combine.Goals as goal

pub operate-requires-clause-left : goal.operate-requires-clause-left
operate-requires-clause-left c =
    let m = c.args.self.now in
    let (fs, whole, n, h) = c.requires in
    left_value fs m.store (callers_of m.scope) (own_of m.scope) m.values.items m.budget (frames_of m) whole c.args.op c.args.x m.value n h

pub operate-requires-clause-right : goal.operate-requires-clause-right
operate-requires-clause-right c =
    let m = c.args.self.now in
    let (fs, whole, n, h) = c.requires in
    right_value fs m.store (callers_of m.scope) (own_of m.scope) m.values.items m.budget (frames_of m) whole c.args.op c.args.x m.value n h

pub returns-in-Ok : goal.returns-in-Ok
returns-in-Ok c = λ fs whole n h.
    let m = c.args.self.now in
    let t = c.operate.new.store in
    let given = given_operands (Some c.args.x) m.value in
    c.settle.ensures fs whole n
    (subst (λ at. Leads fs t (callers_of m.scope) (own_of m.scope) m.values.items m.budget (frames_of m) (settled c.in-Ok.outcome at given) whole n) (sym c.binary_place.ensures)
    (right_leads fs m.store (callers_of m.scope) (own_of m.scope) m.values.items m.budget (frames_of m) whole t c.args.op c.args.x m.value c.in-Ok.outcome n c.operate.ensures.keeps c.in-Ok.ensures.done h))

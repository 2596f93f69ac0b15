use Rattle.std.proofs.Common.{sym, subst, None}
use Rattle.um_eval.specs.Variables.{own_of, callers_of}
use Rattle.um_eval.specs.Settling.{settled, given_operands}
use Rattle.um_eval.specs.Progress.{LeadsTo, frames_of}
use Rattle.um_eval.proofs.Resuming.{operand_leads}
use Rattle.um_eval.proofs.evaluator.Evaluator.apply.Goals as goal

pub returns : goal.returns
returns c = λ fs whole n h.
    let m = c.args.self.now in
    c.settle.ensures fs whole n
    (subst (λ at. LeadsTo fs m (settled c.apply-outcome.result at (given_operands None m.value)) whole n) (sym c.unary_place.ensures)
    (operand_leads fs m.store (callers_of m.scope) (own_of m.scope) m.values.items m.budget (frames_of m) whole m.value n c.args.op c.apply-outcome.result c.apply-outcome.ensures h))

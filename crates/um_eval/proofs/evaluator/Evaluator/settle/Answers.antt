use Rattle.std.proofs.Common.{sym, subst}
use Rattle.um_eval.specs.Tasks.{Halt}
use Rattle.um_tree.specs.Meaning.{trap}
use Rattle.um_eval.specs.Settling.{settled, given_operands}
use Rattle.um_eval.specs.Progress.{LeadsTo}
use Rattle.um_eval.proofs.evaluator.Evaluator.settle.Goals as goal

pub returns-in-Value : goal.returns-in-Value
returns-in-Value c = λ fs whole n h.
    c.give.ensures fs whole n (subst (λ o. LeadsTo fs c.args.self.now (settled o c.args.at (given_operands c.args.first c.args.last)) whole n) c.in-Value.is h)

pub returns-in-Trap : goal.returns-in-Trap
returns-in-Trap c = λ fs whole n h.
    subst (λ given. LeadsTo fs c.args.self.now (Halt (trap c.in-Trap.trap) c.args.at given) whole n) (sym c.given_operands-self.ensures)
    (subst (λ o. LeadsTo fs c.args.self.now (settled o c.args.at (given_operands c.args.first c.args.last)) whole n) c.in-Trap.is h)

pub returns-in-Wrong : goal.returns-in-Wrong
returns-in-Wrong c = λ fs whole n h.
    subst (λ o. LeadsTo fs c.args.self.now (settled o c.args.at (given_operands c.args.first c.args.last)) whole n) c.in-Wrong.is h

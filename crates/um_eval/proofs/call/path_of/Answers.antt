use Rattle.std.proofs.Common.{subst}
use Rattle.um_tree.specs.Meaning.{trap, budget_end, Outcome}
use Rattle.um_eval.specs.Through.{Whole}
use Rattle.um_eval.specs.Progress.{EndsWith, EndsAt, frames_of}
use Rattle.um_eval.proofs.ReadOff.{read_off, value_has_none}
use Rattle.um_eval.proofs.call.path_of.Goals as goal

pub returns-in-Value : goal.returns-in-Value
returns-in-Value c = λ fs f vs b some right end.
    let (v, rest, d, e) = subst (λ x. EndsWith c.args.ended.now.evaluator.store x (Outcome fs f vs b)) c.in-Value.is end.0 in
    value_has_none fs f vs b v rest e

pub returns-in_ok-stop_path-in-Trap : goal.returns-in_ok-stop_path-in-Trap
returns-in_ok-stop_path-in-Trap c = λ fs f vs b some right end.
    let m = c.args.ended.now.evaluator in
    let path = c.in_ok-stop_path-in-Trap.field-0 in
    let is = c.in_ok-stop_path-in-Trap.ensures in
    let whole : Whole = record { function = f; arguments = vs; budget = b } in
    read_off fs (frames_of m) (trap c.in-Trap.field-0) m.at m.operands path is.0 is.1 whole some (subst (λ x. EndsAt fs m x whole) c.in-Trap.is end.1)

pub returns-in_ok-stop_path-in-BudgetEnd : goal.returns-in_ok-stop_path-in-BudgetEnd
returns-in_ok-stop_path-in-BudgetEnd c = λ fs f vs b some right end.
    let m = c.args.ended.now.evaluator in
    let path = c.in_ok-stop_path-in-BudgetEnd.field-0 in
    let is = c.in_ok-stop_path-in-BudgetEnd.ensures in
    let whole : Whole = record { function = f; arguments = vs; budget = b } in
    read_off fs (frames_of m) budget_end m.at m.operands path is.0 is.1 whole some (subst (λ x. EndsAt fs m x whole) c.in-BudgetEnd.is end.1)

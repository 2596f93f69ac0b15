use Rattle.um_tree.proofs.BudgetLaws.{call_rest_is_within, call_larger_budget_suffices, call_trap_stays}
use Rattle.um_tree.proofs.laws.budgets_of_calls.Goals as goal

pub returns : goal.returns
returns c = record { rest = call_rest_is_within; larger = call_larger_budget_suffices; trap = call_trap_stays }

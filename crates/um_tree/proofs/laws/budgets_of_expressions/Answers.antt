use Rattle.um_tree.proofs.BudgetLaws.{rest_is_within, larger_budget_suffices, trap_stays}
use Rattle.um_tree.proofs.laws.budgets_of_expressions.Goals as goal

pub returns : goal.returns
returns c = record { rest = rest_is_within; larger = larger_budget_suffices; trap = trap_stays }

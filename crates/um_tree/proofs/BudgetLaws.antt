-- The laws of budgets, of expressions and of calls.
use Rattle.std.proofs.Common.{subst, ◌+◌}
use Rattle.um_tree.specs.Meaning.{Means, Outcome}
use Rattle.um_tree.specs.Laws.{RestIsWithin, LargerBudgetSuffices, TrapStays, CallRestIsWithin, CallLargerBudgetSuffices, CallTrapStays}
use Rattle.um_tree.proofs.Budget.{Within, Means-within, Outcome-within}
use Rattle.um_tree.proofs.Growth.{Grown, Means-grown, Outcome-grown}

pub rest_is_within : RestIsWithin
rest_is_within fs vars e b v rest m = subst (Within b) m (Means-within fs vars e b)

pub larger_budget_suffices : LargerBudgetSuffices
larger_budget_suffices fs vars e b v rest extra m = subst (λ o. Grown extra o (Means fs vars e (b + extra))) m (Means-grown fs vars e b extra)

pub trap_stays : TrapStays
trap_stays fs vars e b t extra m = subst (λ o. Grown extra o (Means fs vars e (b + extra))) m (Means-grown fs vars e b extra)

pub call_rest_is_within : CallRestIsWithin
call_rest_is_within fs j vs b v rest m = subst (Within b) m (Outcome-within fs j vs b)

pub call_larger_budget_suffices : CallLargerBudgetSuffices
call_larger_budget_suffices fs j vs b v rest extra m = subst (λ o. Grown extra o (Outcome fs j vs (b + extra))) m (Outcome-grown fs j vs b extra)

pub call_trap_stays : CallTrapStays
call_trap_stays fs j vs b t extra m = subst (λ o. Grown extra o (Outcome fs j vs (b + extra))) m (Outcome-grown fs j vs b extra)

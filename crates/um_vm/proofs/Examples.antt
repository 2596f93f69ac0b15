-- The steps of small runs, by computation.
use Rattle.std.proofs.Common.{◌≡◌, refl, ℕ, zero, suc, ◌<◌, [], ◌∷◌, arith}
use Rattle.std.specs.Prelude.{◌≢◌}
use Rattle.um_tree.specs.ValueTree.{OutcomeTree, number_value, value_outcome, budget_outcome}
use Rattle.um_tree.proofs.ExamplePrograms.{zero_number}
use Rattle.um_machine.specs.Stack.{takes}
use Rattle.um_machine.specs.Machine.{op_at, step, Runs, done}
use Rattle.um_machine.proofs.ExampleCode.{sum_code, empty_list}
use Rattle.um_vm.specs.Counting.{EndsAfter, CountsSteps}

-- the sum of no numbers ends with the fourth step
ends_at_four : Runs sum_code 0 (empty_list ∷ []) 1 4 ≡ done (value_outcome (number_value zero_number))
unfolding op_at takes step
ends_at_four = refl

not_earlier : (m : ℕ) (p : OutcomeTree) → m < 4 → Runs sum_code 0 (empty_list ∷ []) 1 m ≢ done p
unfolding op_at takes step
not_earlier zero p l = λ h. absurd cc
not_earlier (suc zero) p l = λ h. absurd cc
not_earlier (suc (suc zero)) p l = λ h. absurd cc
not_earlier (suc (suc (suc zero))) p l = λ h. absurd cc
not_earlier (suc (suc (suc (suc m)))) p l = absurd (omega arith)

sum_ends : EndsAfter sum_code 0 (empty_list ∷ []) 1 4 (value_outcome (number_value zero_number))
sum_ends = (ends_at_four, not_earlier)

sum_is_counted : CountsSteps sum_code 0 (empty_list ∷ []) 1 (value_outcome (number_value zero_number)) 4
sum_is_counted = (4, sum_ends, refl)

-- without a budget it has ended before the first
sum_is_spent : CountsSteps sum_code 0 (empty_list ∷ []) 0 budget_outcome 0
sum_is_spent = (0, (refl, λ m p l. absurd (omega arith)), refl)

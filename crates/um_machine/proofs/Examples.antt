-- Runs of small codes, by computation.
use Rattle.std.proofs.Common.{◌≡◌, refl, [], ◌∷◌, pos, arith}
use Rattle.std.proofs.lemmas.Int.{ints}
use Rattle.um_frac.specs.declared.number.Frac.{Frac}
use Rattle.um_frac.specs.Gcd.{gcd}
use Rattle.um_frac.specs.Fraction.{fraction, divided, reduced}
use Rattle.um_frac.specs.Arithmetic.{sum_of, product_of}
use Rattle.um_tree.specs.ValueTree.{ValueTree, number_value, list_value, no_values, more_values}
use Rattle.um_tree.proofs.ExamplePrograms.{one_number}
use Rattle.um_tree.proofs.ExampleShown.{fraction_of, plain_list, no_plains, more_plains, whole_number, number_of}
use Rattle.um_machine.specs.declared.op.Op.TheVariants.{Add}
use Rattle.um_machine.specs.Stack.{takes}
use Rattle.um_machine.specs.Machine.{op_at, step, Runs}
use Rattle.um_machine.proofs.ExampleCode.{goes_on, ends_with, ends_spent, is_stuck, seen, one_function, sum_code, area_code, empty_list}

-- the sum of no numbers: the fourth step ends, and so do more
sum_goes_on : seen (Runs sum_code 0 (empty_list ∷ []) 1 3) ≡ goes_on 9 (plain_list no_plains ∷ whole_number 0 ∷ [])
unfolding op_at takes step
sum_goes_on = refl

sum_ends : seen (Runs sum_code 0 (empty_list ∷ []) 1 4) ≡ ends_with (whole_number 0)
unfolding op_at takes step
sum_ends = refl

sum_has_ended : seen (Runs sum_code 0 (empty_list ∷ []) 1 5) ≡ ends_with (whole_number 0)
unfolding op_at takes step
sum_has_ended = refl

-- without a budget it ends at once
sum_is_spent : seen (Runs sum_code 0 (empty_list ∷ []) 0 0) ≡ ends_spent
sum_is_spent = refl

abbrev five_halves : Frac
unfolding gcd
five_halves = record { num = pos 5; den = pos 2; positive = omega (arith, ints); den_fits = omega (arith, ints); above = omega (arith, ints); num_fits = omega (arith, ints); lowest = refl }

abbrev two_numbers : ValueTree
two_numbers = list_value (more_values (number_value one_number) (more_values (number_value five_halves) no_values))

-- 1 + 5/2 takes 22 steps
fractions_end : seen (Runs sum_code 0 (two_numbers ∷ []) 10 22) ≡ ends_with (fraction_of (pos 7) (pos 2))
unfolding op_at takes step sum_of reduced divided fraction gcd
fractions_end = refl

fractions_go_on : seen (Runs sum_code 0 (two_numbers ∷ []) 10 21) ≡ goes_on 9 (plain_list (more_plains (whole_number 1) (more_plains (fraction_of (pos 5) (pos 2)) no_plains)) ∷ fraction_of (pos 7) (pos 2) ∷ [])
unfolding op_at takes step sum_of reduced divided fraction gcd
fractions_go_on = refl

-- three calls for two numbers
fractions_are_spent : seen (Runs sum_code 0 (two_numbers ∷ []) 2 22) ≡ ends_spent
unfolding op_at takes step
fractions_are_spent = refl

-- 2 * 3 takes four steps
area_goes_on : seen (Runs area_code 0 (number_of 2 (omega arith) ∷ number_of 3 (omega arith) ∷ []) 1 3) ≡ goes_on 3 (whole_number 2 ∷ whole_number 3 ∷ whole_number 6 ∷ [])
unfolding op_at takes step product_of reduced divided fraction gcd
area_goes_on = refl

area_ends : seen (Runs area_code 0 (number_of 2 (omega arith) ∷ number_of 3 (omega arith) ∷ []) 1 4) ≡ ends_with (whole_number 6)
unfolding op_at takes step product_of reduced divided fraction gcd
area_ends = refl

-- `add` alone has nothing to take
lone_add : seen (Runs (one_function (Add ∷ []) 1 0) 0 [] 1 1) ≡ is_stuck
unfolding op_at takes step
lone_add = refl

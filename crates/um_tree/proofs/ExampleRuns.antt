-- How calls of small programs end, by computation.
use Rattle.std.proofs.Common.{◌≡◌, refl, [], ◌∷◌, pos, arith}
use Rattle.std.proofs.lemmas.Int.{ints}
use Rattle.um_frac.specs.declared.number.Frac.{Frac}
use Rattle.um_frac.specs.Gcd.{gcd}
use Rattle.um_frac.specs.Fraction.{fraction, divided, reduced}
use Rattle.um_frac.specs.Arithmetic.{sum_of, difference_of, product_of}
use Rattle.um_tree.specs.ValueTree.{ValueTree, number_value, list_value, no_values, more_values}
use Rattle.um_tree.specs.Meaning.{Outcome}
use Rattle.um_tree.proofs.ExamplePrograms.{one_number, area, zeros, squares, sum}
use Rattle.um_tree.proofs.ExampleShown.{number_shown, end_shown, shown, number_of}

area_runs : shown (Outcome area.functions 0 (number_of 2 (omega arith) ∷ number_of 3 (omega arith) ∷ []) 1) ≡ number_shown (pos 6) (pos 1) 0
unfolding Outcome product_of reduced divided fraction gcd
area_runs = refl

zero_runs : shown (Outcome zeros.functions 0 [] 1) ≡ number_shown (pos 0) (pos 1) 0
unfolding Outcome
zero_runs = refl

zero_ends : shown (Outcome zeros.functions 0 [] 0) ≡ end_shown
unfolding Outcome
zero_ends = refl

-- f 2 3 is 81 with three calls, and ends with two
squares_run : shown (Outcome squares.functions 0 (number_of 2 (omega arith) ∷ number_of 3 (omega arith) ∷ []) 3) ≡ number_shown (pos 81) (pos 1) 0
unfolding Outcome product_of difference_of reduced divided fraction gcd
squares_run = refl

squares_end : shown (Outcome squares.functions 0 (number_of 2 (omega arith) ∷ number_of 3 (omega arith) ∷ []) 2) ≡ end_shown
unfolding Outcome product_of difference_of reduced divided fraction gcd
squares_end = refl

abbrev three_ones : ValueTree
three_ones = list_value (more_values (number_value one_number) (more_values (number_value one_number) (more_values (number_value one_number) no_values)))

-- the sum of three numbers takes four calls
sum_runs : shown (Outcome sum.functions 0 (three_ones ∷ []) 4) ≡ number_shown (pos 3) (pos 1) 0
unfolding Outcome sum_of reduced divided fraction gcd
sum_runs = refl

sum_ends : shown (Outcome sum.functions 0 (three_ones ∷ []) 3) ≡ end_shown
unfolding Outcome sum_of reduced divided fraction gcd
sum_ends = refl

abbrev five_halves : Frac
unfolding gcd
five_halves = record { num = pos 5; den = pos 2; positive = omega (arith, ints); den_fits = omega (arith, ints); above = omega (arith, ints); num_fits = omega (arith, ints); lowest = refl }

-- 1 + 5/2 with the budget 10
sum_of_fractions : shown (Outcome sum.functions 0 (list_value (more_values (number_value one_number) (more_values (number_value five_halves) no_values)) ∷ []) 10) ≡ number_shown (pos 7) (pos 2) 7
unfolding Outcome sum_of reduced divided fraction gcd
sum_of_fractions = refl

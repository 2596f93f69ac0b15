-- The meaning of every node, by computation: what it gives, in which order its parts are looked at, and which part's trap
-- or end of the budget it takes.
use Rattle.std.proofs.Common.{◌≡◌, refl, ℕ, ◌≤◌, true, false, List, [], ◌∷◌, pos, negsuc, arith}
use Rattle.um_frac.specs.Gcd.{gcd}
use Rattle.um_frac.specs.Fraction.{fraction, divided, reduced}
use Rattle.um_frac.specs.Arithmetic.{sum_of, difference_of, product_of, quotient_of, whole_power_of, negation_of}
use Rattle.um_frac.specs.declared.number.Trap.TheVariants.{Overflow, DivZero}
use Rattle.um_units.specs.PowerMap.{one}
use Rattle.um_tree.specs.declared.note.UnitNote.TheVariants.{Hole, Written}
use Rattle.um_tree.specs.declared.expression.Arith.TheVariants.{Add, Sub, Mul, Div}
use Rattle.um_tree.specs.declared.expression.Sign.{Sign}
use Rattle.um_tree.specs.declared.expression.Sign.TheVariants.{Lt, Le, Eq, Gt, Ge, Ne}
use Rattle.um_tree.specs.TypeTree.{num_note, list_note}
use Rattle.um_tree.specs.ExprTree.{ExprTree, truth, number, local, call, negate, not_expr, pown, arith as arith_tree, compare, both, either, if, bind, split, nil, list_expr, cons, record_expr, field, none, more}
use Rattle.um_tree.specs.ProgramTree.{FunctionTree}
use Rattle.um_tree.specs.Meaning.{Means}
use Rattle.um_tree.proofs.ExamplePrograms.{whole, plain}
use Rattle.um_tree.proofs.ExampleShown.{Plain, Shown, value_shown, trap_shown, end_shown, wrong_shown, plain_truth, plain_list, plain_record, number_shown, whole_number, in_plain_order, shown, number_of}

-- let same (x: num<_>) = x, let first (x: num<_>) (y: num<_>) = x, and let second (x: num<_>) (y: num<_>) = y
abbrev functions : List FunctionTree
functions =
    plain (num_note Hole ∷ []) (local 0 0)
    ∷ plain (num_note Hole ∷ num_note Hole ∷ []) (local 0 0)
    ∷ plain (num_note Hole ∷ num_note Hole ∷ []) (local 0 1)
    ∷ []

-- what the expression means with this budget, in a scope of the variables 10 and 20
abbrev runs : ExprTree → ℕ → Shown
runs e b = shown (Means functions (number_of 10 (omega arith) ∷ number_of 20 (omega arith) ∷ []) e b)

abbrev num : (n : ℕ) → n ≤ 1000000 → ExprTree
num n low = number 0 (whole n low) (Written one)

abbrev n0 : ExprTree
n0 = num 0 (omega arith)

abbrev n1 : ExprTree
n1 = num 1 (omega arith)

abbrev n2 : ExprTree
n2 = num 2 (omega arith)

abbrev n3 : ExprTree
n3 = num 3 (omega arith)

-- 1 / 0
abbrev by_zero : ExprTree
by_zero = arith_tree 0 Div n1 n0

abbrev squared : ExprTree → ExprTree
squared e = arith_tree 0 Mul e e

-- the fourth power of a million
abbrev too_large : ExprTree
too_large = squared (squared (num 1000000 (omega arith)))

-- a call that costs one, and gives its argument
abbrev same : ExprTree → ExprTree
same e = call 0 0 (more e none)

abbrev first : ExprTree → ExprTree → ExprTree
first x y = call 0 1 (more x (more y none))

abbrev second : ExprTree → ExprTree → ExprTree
second x y = call 0 2 (more x (more y none))

abbrev whole_shown : ℕ → ℕ → Shown
whole_shown n b = value_shown (whole_number n) b

abbrev yes : Shown
yes = value_shown (plain_truth true) 5

abbrev no : Shown
no = value_shown (plain_truth false) 5

abbrev wholes : List ℕ → ℕ → Shown
wholes ns b = value_shown (plain_list (in_plain_order (whole_numbers ns))) b
  where
    whole_numbers : List ℕ → List Plain
    whole_numbers [] = []
    whole_numbers (n ∷ ns) = whole_number n ∷ whole_numbers ns

-- ---- truth values, numbers and variables
truths : runs (truth 0 true) 5 ∷ runs (truth 0 false) 5 ∷ [] ≡ yes ∷ no ∷ []
unfolding Means
truths = refl

numbers : runs n3 5 ∷ runs (number 0 (whole 0 (omega arith)) Hole) 5 ∷ [] ≡ whole_shown 3 5 ∷ whole_shown 0 5 ∷ []
unfolding Means
numbers = refl

-- variable 0 is the first of the scope
variables : runs (local 0 0) 5 ∷ runs (local 0 1) 5 ∷ runs (local 0 2) 5 ∷ [] ≡ whole_shown 10 5 ∷ whole_shown 20 5 ∷ wrong_shown ∷ []
unfolding Means
variables = refl

-- ---- the traps
traps : runs by_zero 5 ∷ runs too_large 5 ∷ [] ≡ trap_shown DivZero ∷ trap_shown Overflow ∷ []
unfolding Means product_of quotient_of reduced divided fraction gcd
traps = refl

-- ---- unary minus and not
minus : runs (negate 0 n3) 5 ∷ runs (negate 0 (negate 0 n3)) 5 ∷ runs (negate 0 (truth 0 true)) 5 ∷ runs (negate 0 by_zero) 5 ∷ []
    ≡ number_shown (negsuc 2) (pos 1) 5 ∷ whole_shown 3 5 ∷ wrong_shown ∷ trap_shown DivZero ∷ []
unfolding Means negation_of quotient_of reduced divided fraction gcd
minus = refl

nots : runs (not_expr 0 (truth 0 true)) 5 ∷ runs (not_expr 0 (truth 0 false)) 5 ∷ runs (not_expr 0 n1) 5 ∷ [] ≡ no ∷ yes ∷ wrong_shown ∷ []
unfolding Means
nots = refl

-- ---- whole powers: 3^2, 3^-2, (-2)^3, 2^0, 0^0, 0^-1, 2^62, 2^63, of a truth value, of a trap
powers :
    runs (pown 0 n3 (pos 2)) 5 ∷ runs (pown 0 n3 (negsuc 1)) 5 ∷ runs (pown 0 (negate 0 n2) (pos 3)) 5 ∷ runs (pown 0 n2 (pos 0)) 5
    ∷ runs (pown 0 n0 (pos 0)) 5 ∷ runs (pown 0 n0 (negsuc 0)) 5 ∷ runs (pown 0 (truth 0 true) (pos 2)) 5 ∷ runs (pown 0 by_zero (pos 0)) 5 ∷ []
    ≡ whole_shown 9 5 ∷ number_shown (pos 1) (pos 9) 5 ∷ number_shown (negsuc 7) (pos 1) 5 ∷ whole_shown 1 5
    ∷ whole_shown 1 5 ∷ trap_shown DivZero ∷ wrong_shown ∷ trap_shown DivZero ∷ []
unfolding Means whole_power_of negation_of quotient_of reduced divided fraction gcd
powers = refl

powers_to_the_end : runs (pown 0 n2 (pos 62)) 5 ∷ runs (pown 0 n2 (pos 63)) 5 ∷ [] ≡ whole_shown 4611686018427387904 5 ∷ trap_shown Overflow ∷ []
unfolding Means whole_power_of reduced divided fraction gcd
powers_to_the_end = refl

-- ---- arithmetic: 3 + 2, 3 - 2, 2 - 3, 3 * 2, 3 / 2, 2 / 3
operations :
    runs (arith_tree 0 Add n3 n2) 5 ∷ runs (arith_tree 0 Sub n3 n2) 5 ∷ runs (arith_tree 0 Sub n2 n3) 5
    ∷ runs (arith_tree 0 Mul n3 n2) 5 ∷ runs (arith_tree 0 Div n3 n2) 5 ∷ runs (arith_tree 0 Div n2 n3) 5 ∷ []
    ≡ whole_shown 5 5 ∷ whole_shown 1 5 ∷ number_shown (negsuc 0) (pos 1) 5
    ∷ whole_shown 6 5 ∷ number_shown (pos 3) (pos 2) 5 ∷ number_shown (pos 2) (pos 3) 5 ∷ []
unfolding Means sum_of difference_of product_of quotient_of reduced divided fraction gcd
operations = refl

operation_of_truth : runs (arith_tree 0 Add n1 (truth 0 true)) 5 ∷ runs (arith_tree 0 Add (truth 0 true) n1) 5 ∷ [] ≡ wrong_shown ∷ wrong_shown ∷ []
unfolding Means
operation_of_truth = refl

-- of two traps the left one's, and no trap of a part that stands behind one
left_trap :
    runs (arith_tree 0 Add by_zero too_large) 5 ∷ runs (arith_tree 0 Add too_large by_zero) 5
    ∷ runs (compare 0 Lt by_zero too_large) 5 ∷ runs (compare 0 Lt too_large by_zero) 5
    ∷ runs (cons 0 by_zero (list_expr 0 (more too_large none))) 5 ∷ runs (cons 0 too_large (list_expr 0 (more by_zero none))) 5
    ∷ runs (list_expr 0 (more by_zero (more too_large none))) 5 ∷ runs (list_expr 0 (more too_large (more by_zero none))) 5
    ∷ runs (record_expr 0 0 (more by_zero (more too_large none))) 5 ∷ runs (record_expr 0 0 (more too_large (more by_zero none))) 5
    ∷ runs (first by_zero too_large) 5 ∷ runs (first too_large by_zero) 5 ∷ []
    ≡ trap_shown DivZero ∷ trap_shown Overflow ∷ trap_shown DivZero ∷ trap_shown Overflow
    ∷ trap_shown DivZero ∷ trap_shown Overflow ∷ trap_shown DivZero ∷ trap_shown Overflow
    ∷ trap_shown DivZero ∷ trap_shown Overflow ∷ trap_shown DivZero ∷ trap_shown Overflow ∷ []
unfolding Means product_of quotient_of reduced divided fraction gcd
left_trap = refl

-- a trap comes before a shape that is wrong on its right, and after one on its left
trap_and_wrong : runs (arith_tree 0 Add by_zero (truth 0 true)) 5 ∷ runs (arith_tree 0 Add (local 0 2) by_zero) 5 ∷ [] ≡ trap_shown DivZero ∷ wrong_shown ∷ []
unfolding Means quotient_of reduced divided fraction gcd
trap_and_wrong = refl

-- ---- comparisons of 1 with 2, of 2 with 2 and of 2 with 1
abbrev order : Sign → List Shown
order s = runs (compare 0 s n1 n2) 5 ∷ runs (compare 0 s n2 n2) 5 ∷ runs (compare 0 s n2 n1) 5 ∷ []

less : order Lt ≡ yes ∷ no ∷ no ∷ []
unfolding Means
less = refl

at_most : order Le ≡ yes ∷ yes ∷ no ∷ []
unfolding Means
at_most = refl

equal : order Eq ≡ no ∷ yes ∷ no ∷ []
unfolding Means
equal = refl

greater : order Gt ≡ no ∷ no ∷ yes ∷ []
unfolding Means
greater = refl

at_least : order Ge ≡ no ∷ yes ∷ yes ∷ []
unfolding Means
at_least = refl

other : order Ne ≡ yes ∷ no ∷ yes ∷ []
unfolding Means
other = refl

-- fractions are compared as numbers: 2/3 < 3/4, and 2/4 = 1/2
fractions_compared :
    runs (compare 0 Lt (arith_tree 0 Div n2 n3) (arith_tree 0 Div n3 (num 4 (omega arith)))) 5
    ∷ runs (compare 0 Eq (arith_tree 0 Div n2 (num 4 (omega arith))) (arith_tree 0 Div n1 n2)) 5
    ∷ runs (compare 0 Lt (negate 0 n2) (negate 0 n1)) 5
    ∷ runs (compare 0 Lt n1 (truth 0 true)) 5 ∷ []
    ≡ yes ∷ yes ∷ yes ∷ wrong_shown ∷ []
unfolding Means negation_of quotient_of reduced divided fraction gcd
fractions_compared = refl

-- ---- `&&` and `||` look at the right part only where the left one leaves it open
both_parts :
    runs (both 0 (truth 0 true) (truth 0 true)) 5 ∷ runs (both 0 (truth 0 true) (truth 0 false)) 5
    ∷ runs (both 0 (truth 0 false) by_zero) 5 ∷ runs (both 0 (truth 0 true) by_zero) 5
    ∷ runs (both 0 by_zero (truth 0 false)) 5 ∷ runs (both 0 n1 (truth 0 true)) 5 ∷ []
    ≡ yes ∷ no ∷ no ∷ trap_shown DivZero ∷ trap_shown DivZero ∷ wrong_shown ∷ []
unfolding Means quotient_of reduced divided fraction gcd
both_parts = refl

either_part :
    runs (either 0 (truth 0 false) (truth 0 false)) 5 ∷ runs (either 0 (truth 0 false) (truth 0 true)) 5
    ∷ runs (either 0 (truth 0 true) by_zero) 5 ∷ runs (either 0 (truth 0 false) by_zero) 5
    ∷ runs (either 0 by_zero (truth 0 true)) 5 ∷ runs (either 0 n1 (truth 0 true)) 5 ∷ []
    ≡ no ∷ yes ∷ yes ∷ trap_shown DivZero ∷ trap_shown DivZero ∷ wrong_shown ∷ []
unfolding Means quotient_of reduced divided fraction gcd
either_part = refl

-- ---- of `if` one arm is looked at
arms :
    runs (if 0 (truth 0 true) n1 by_zero) 5 ∷ runs (if 0 (truth 0 false) by_zero n2) 5
    ∷ runs (if 0 by_zero n1 n2) 5 ∷ runs (if 0 n1 n1 n2) 5 ∷ []
    ≡ whole_shown 1 5 ∷ whole_shown 2 5 ∷ trap_shown DivZero ∷ wrong_shown ∷ []
unfolding Means quotient_of reduced divided fraction gcd
arms = refl

-- ---- the variable of `let` comes after those of the scope, and its part is looked at first, even where it is not used
lets :
    runs (bind 0 n3 (local 0 2)) 5 ∷ runs (bind 0 n3 (local 0 0)) 5 ∷ runs (bind 0 n3 (bind 0 n2 (local 0 3))) 5
    ∷ runs (bind 0 by_zero n1) 5 ∷ runs (bind 0 by_zero too_large) 5 ∷ []
    ≡ whole_shown 3 5 ∷ whole_shown 10 5 ∷ whole_shown 2 5 ∷ trap_shown DivZero ∷ trap_shown DivZero ∷ []
unfolding Means product_of quotient_of reduced divided fraction gcd
lets = refl

-- ---- lists
abbrev some : ExprTree
some = list_expr 0 (more n1 (more n2 (more n3 none)))

list_texts : runs some 5 ∷ runs (nil 0 (list_note (num_note Hole))) 5 ∷ runs (list_expr 0 none) 5 ∷ [] ≡ wholes (1 ∷ 2 ∷ 3 ∷ []) 5 ∷ wholes [] 5 ∷ wholes [] 5 ∷ []
unfolding Means
list_texts = refl

-- `3 :: [1; 2; 3]`, `1 :: 2 :: []`, and `[1] :: 2`
heads :
    runs (cons 0 n3 some) 5 ∷ runs (cons 0 n1 (cons 0 n2 (nil 0 (list_note (num_note Hole))))) 5
    ∷ runs (cons 0 (list_expr 0 (more n1 none)) n2) 5 ∷ []
    ≡ wholes (3 ∷ 1 ∷ 2 ∷ 3 ∷ []) 5 ∷ wholes (1 ∷ 2 ∷ []) 5 ∷ wrong_shown ∷ []
unfolding Means
heads = refl

-- head and tail are the two variables after those of the scope, and one arm is looked at
matches :
    runs (split 0 (nil 0 (list_note (num_note Hole))) n1 by_zero) 5 ∷ runs (split 0 some by_zero (local 0 2)) 5
    ∷ runs (split 0 some by_zero (local 0 3)) 5 ∷ runs (split 0 some by_zero (local 0 1)) 5
    ∷ runs (split 0 by_zero n1 n2) 5 ∷ runs (split 0 n1 n1 n2) 5 ∷ []
    ≡ whole_shown 1 5 ∷ whole_shown 1 5 ∷ wholes (2 ∷ 3 ∷ []) 5 ∷ whole_shown 20 5 ∷ trap_shown DivZero ∷ wrong_shown ∷ []
unfolding Means quotient_of reduced divided fraction gcd
matches = refl

-- ---- records: the parts in the order of the fields, and each field by its number
abbrev made : ExprTree
made = record_expr 0 7 (more n1 (more n2 (more n3 none)))

fields :
    runs made 5 ∷ runs (field 0 7 0 made) 5 ∷ runs (field 0 7 1 made) 5 ∷ runs (field 0 7 2 made) 5
    ∷ runs (field 0 7 3 made) 5 ∷ runs (field 0 6 0 made) 5 ∷ runs (field 0 7 0 some) 5 ∷ runs (field 0 7 0 by_zero) 5 ∷ []
    ≡ value_shown (plain_record 7 (in_plain_order (whole_number 1 ∷ whole_number 2 ∷ whole_number 3 ∷ []))) 5
    ∷ whole_shown 1 5 ∷ whole_shown 2 5 ∷ whole_shown 3 5 ∷ wrong_shown ∷ wrong_shown ∷ wrong_shown ∷ trap_shown DivZero ∷ []
unfolding Means quotient_of reduced divided fraction gcd
fields = refl

-- ---- calls: each costs one of the budget, and the parameters are the only variables of the body
calls :
    runs (same n3) 5 ∷ runs (same n3) 1 ∷ runs (same n3) 0 ∷ runs (first n1 n2) 5 ∷ runs (second n1 n2) 5
    ∷ runs (same (same n3)) 2 ∷ runs (same (same n3)) 1 ∷ []
    ≡ whole_shown 3 4 ∷ whole_shown 3 0 ∷ end_shown ∷ whole_shown 1 4 ∷ whole_shown 2 4 ∷ whole_shown 3 0 ∷ end_shown ∷ []
unfolding Means
calls = refl

-- the arguments are looked at before the budget, the function and their number before it as well
arguments_first :
    runs (same by_zero) 0 ∷ runs (call 0 0 (more n1 (more n2 none))) 0 ∷ runs (call 0 0 none) 0 ∷ runs (call 0 3 (more n1 none)) 0 ∷ []
    ≡ trap_shown DivZero ∷ wrong_shown ∷ wrong_shown ∷ wrong_shown ∷ []
unfolding Means quotient_of reduced divided fraction gcd
arguments_first = refl

-- what the left part leaves of the budget the right one gets: `same 1 + 1 / 0` ends where the budget ends, and
-- `1 / 0 + same 1` traps
left_to_right :
    runs (arith_tree 0 Sub (same n3) (same n1)) 2 ∷ runs (arith_tree 0 Sub (same n3) (same n1)) 1
    ∷ runs (arith_tree 0 Add (same n1) by_zero) 0 ∷ runs (arith_tree 0 Add by_zero (same n1)) 0
    ∷ runs (compare 0 Le (same n3) by_zero) 0 ∷ runs (cons 0 (same n1) (list_expr 0 (more by_zero none))) 0
    ∷ runs (first (same n1) by_zero) 0 ∷ runs (list_expr 0 (more (same n1) (more (same n2) none))) 5
    ∷ runs (bind 0 (same n1) by_zero) 0 ∷ []
    ≡ whole_shown 2 0 ∷ end_shown ∷ end_shown ∷ trap_shown DivZero ∷ end_shown ∷ end_shown ∷ end_shown ∷ wholes (1 ∷ 2 ∷ []) 3 ∷ end_shown ∷ []
unfolding Means difference_of quotient_of reduced divided fraction gcd
left_to_right = refl

-- a part that is not looked at costs nothing
not_looked_at :
    runs (both 0 (truth 0 false) (compare 0 Lt (same n1) n2)) 0 ∷ runs (either 0 (truth 0 true) (compare 0 Lt (same n1) n2)) 0
    ∷ runs (if 0 (truth 0 false) (same n1) n2) 0 ∷ runs (both 0 (truth 0 true) (compare 0 Lt (same n1) n2)) 1 ∷ []
    ≡ value_shown (plain_truth false) 0 ∷ value_shown (plain_truth true) 0 ∷ whole_shown 2 0 ∷ value_shown (plain_truth true) 0 ∷ []
unfolding Means
not_looked_at = refl

-- What each instruction does, and where it doesn't apply, by computation.
use Rattle.std.proofs.Common.{◌≡◌, refl, ℕ, ◌≤◌, true, false, List, [], ◌∷◌, pos, negsuc, arith}
use Rattle.um_frac.specs.declared.number.Trap.TheVariants.{DivZero}
use Rattle.um_frac.specs.Gcd.{gcd}
use Rattle.um_frac.specs.Fraction.{fraction, divided, reduced}
use Rattle.um_frac.specs.Arithmetic.{sum_of, difference_of, product_of, quotient_of, whole_power_of, negation_of}
use Rattle.um_tree.specs.ValueTree.{ValueTree, truth_value, number_value, list_value, record_value, no_values, more_values}
use Rattle.um_tree.proofs.ExamplePrograms.{one_number}
use Rattle.um_tree.proofs.ExampleShown.{Plain, plain_truth, fraction_of, plain_list, plain_record, no_plains, more_plains, whole_number, number_of}
use Rattle.um_machine.specs.declared.op.Op.{Op}
use Rattle.um_machine.specs.declared.op.Op.TheVariants.{PushNum, PushBool, Load, Add, Sub, Mul, Div, Neg, Not, Lt, Le, Eq, Jump, JumpIfNot, MakeList, Cons, Split, MakeRec, Field, Slide, Call, Ret, Pow}
use Rattle.um_machine.specs.declared.code.Code.{Code}
use Rattle.um_machine.specs.Stack.{takes}
use Rattle.um_machine.specs.Machine.{State, op_at, step}
use Rattle.um_machine.proofs.ExampleCode.{Seen, goes_on, ends_with, ends_in, ends_spent, is_stuck, seen}

-- two functions of three instructions each, of which the second has the one that is looked at; the first takes one
-- argument, and the third has no instructions
abbrev around : Op → Code
around i = record {
  ops = Load 0 ∷ Ret ∷ Ret ∷ i ∷ Ret ∷ Ret ∷ [];
  entries =
      record { start = 0; end = 3; params = 1 } ∷ record { start = 3; end = 6; params = 1 }
      ∷ record { start = 6; end = 6; params = 0 } ∷ [];
}

-- its state: one value of a caller stands below its own
abbrev on : List ValueTree → ℕ → State
on own b = record {
  at = 3;
  stack = truth_value true ∷ own;
  running = record { function = 1; back = 1; base = 1 };
  callers = record { function = 0; back = 0; base = 0 } ∷ [];
  budget = b;
}

-- one step from there
abbrev after : Op → List ValueTree → Seen
after i own = seen (step (around i) (on own 5))

-- the same function goes on at an address, with these values of its own
abbrev then : ℕ → List Plain → Seen
then a own = goes_on a (plain_truth true ∷ own)

abbrev n : (k : ℕ) → k ≤ 1000000 → ValueTree
n k low = number_of k low

abbrev yes : ValueTree
yes = truth_value true

abbrev no : ValueTree
no = truth_value false

abbrev empty : ValueTree
empty = list_value no_values

-- [1]
abbrev ones : ValueTree
ones = list_value (more_values (number_value one_number) no_values)

-- a record of true and 1
abbrev pair : ValueTree
pair = record_value 4 (more_values yes (more_values (number_value one_number) no_values))

abbrev plain_pair : Plain
plain_pair = plain_record 4 (more_plains (plain_truth true) (more_plains (whole_number 1) no_plains))

-- ---- constants and variables

number_is_pushed : after (PushNum one_number) [] ≡ then 4 (whole_number 1 ∷ [])
unfolding op_at step
number_is_pushed = refl

truth_is_pushed : after (PushBool false) (no ∷ []) ≡ then 4 (plain_truth false ∷ plain_truth false ∷ [])
unfolding op_at step
truth_is_pushed = refl

first_is_loaded : after (Load 0) (ones ∷ no ∷ []) ≡ then 4 (plain_list (more_plains (whole_number 1) no_plains) ∷ plain_truth false ∷ plain_list (more_plains (whole_number 1) no_plains) ∷ [])
unfolding op_at step
first_is_loaded = refl

no_such_place : after (Load 2) (yes ∷ no ∷ []) ≡ is_stuck
unfolding op_at step
no_such_place = refl

-- ---- operations

sum : after Add (n 2 (omega arith) ∷ n 3 (omega arith) ∷ []) ≡ then 4 (whole_number 5 ∷ [])
unfolding op_at takes step sum_of reduced divided fraction gcd
sum = refl

difference : after Sub (n 2 (omega arith) ∷ n 3 (omega arith) ∷ []) ≡ then 4 (fraction_of (negsuc 0) (pos 1) ∷ [])
unfolding op_at takes step difference_of reduced divided fraction gcd
difference = refl

product : after Mul (n 2 (omega arith) ∷ n 3 (omega arith) ∷ []) ≡ then 4 (whole_number 6 ∷ [])
unfolding op_at takes step product_of reduced divided fraction gcd
product = refl

quotient : after Div (n 2 (omega arith) ∷ n 3 (omega arith) ∷ []) ≡ then 4 (fraction_of (pos 2) (pos 3) ∷ [])
unfolding op_at takes step quotient_of reduced divided fraction gcd
quotient = refl

by_zero : after Div (n 2 (omega arith) ∷ n 0 (omega arith) ∷ []) ≡ ends_in DivZero
unfolding op_at takes step quotient_of
by_zero = refl

-- a value of the caller isn't there for the function
one_number_alone : after Add (n 3 (omega arith) ∷ []) ≡ is_stuck
unfolding op_at takes step
one_number_alone = refl

other_kind : after Add (n 2 (omega arith) ∷ yes ∷ []) ≡ is_stuck
unfolding op_at takes step
other_kind = refl

negation : after Neg (n 2 (omega arith) ∷ []) ≡ then 4 (fraction_of (negsuc 1) (pos 1) ∷ [])
unfolding op_at takes step negation_of fraction gcd
negation = refl

denial : after Not (yes ∷ []) ≡ then 4 (plain_truth false ∷ [])
unfolding op_at takes step
denial = refl

power : after (Pow (negsuc 1)) (n 2 (omega arith) ∷ []) ≡ then 4 (fraction_of (pos 1) (pos 4) ∷ [])
unfolding op_at takes step whole_power_of reduced divided fraction gcd
power = refl

power_of_zero : after (Pow (negsuc 0)) (n 0 (omega arith) ∷ []) ≡ ends_in DivZero
unfolding op_at takes step whole_power_of
power_of_zero = refl

-- x stands below y
less : after Lt (n 2 (omega arith) ∷ n 3 (omega arith) ∷ []) ≡ then 4 (plain_truth true ∷ [])
unfolding op_at takes step
less = refl

not_less : after Lt (n 3 (omega arith) ∷ n 2 (omega arith) ∷ []) ≡ then 4 (plain_truth false ∷ [])
unfolding op_at takes step
not_less = refl

at_most : after Le (n 2 (omega arith) ∷ n 2 (omega arith) ∷ []) ≡ then 4 (plain_truth true ∷ [])
unfolding op_at takes step
at_most = refl

not_at_most : after Le (n 3 (omega arith) ∷ n 2 (omega arith) ∷ []) ≡ then 4 (plain_truth false ∷ [])
unfolding op_at takes step
not_at_most = refl

equal : after Eq (n 3 (omega arith) ∷ n 2 (omega arith) ∷ []) ≡ then 4 (plain_truth false ∷ [])
unfolding op_at takes step
equal = refl

-- ---- jumps

jump : after (Jump 5) (no ∷ []) ≡ then 5 (plain_truth false ∷ [])
unfolding op_at step
jump = refl

-- an address of another function isn't there
jump_outside : after (Jump 2) [] ≡ is_stuck
unfolding op_at step
jump_outside = refl

jump_behind : after (Jump 6) [] ≡ is_stuck
unfolding op_at step
jump_behind = refl

on_false : after (JumpIfNot 5) (no ∷ []) ≡ then 5 []
unfolding op_at takes step
on_false = refl

on_true : after (JumpIfNot 5) (yes ∷ []) ≡ then 4 []
unfolding op_at takes step
on_true = refl

on_number : after (JumpIfNot 5) (n 0 (omega arith) ∷ []) ≡ is_stuck
unfolding op_at takes step
on_number = refl

-- ---- lists and records

-- the deepest first
list_is_made : after (MakeList 2) (yes ∷ n 2 (omega arith) ∷ n 3 (omega arith) ∷ []) ≡ then 4 (plain_truth true ∷ plain_list (more_plains (whole_number 2) (more_plains (whole_number 3) no_plains)) ∷ [])
unfolding op_at takes step
list_is_made = refl

empty_is_made : after (MakeList 0) [] ≡ then 4 (plain_list no_plains ∷ [])
unfolding op_at takes step
empty_is_made = refl

too_few_items : after (MakeList 2) (yes ∷ []) ≡ is_stuck
unfolding op_at takes step
too_few_items = refl

longer_list : after Cons (n 2 (omega arith) ∷ ones ∷ []) ≡ then 4 (plain_list (more_plains (whole_number 2) (more_plains (whole_number 1) no_plains)) ∷ [])
unfolding op_at takes step
longer_list = refl

no_tail : after Cons (ones ∷ n 2 (omega arith) ∷ []) ≡ is_stuck
unfolding op_at takes step
no_tail = refl

empty_is_split : after (Split 5) (empty ∷ []) ≡ then 5 []
unfolding op_at takes step
empty_is_split = refl

-- the head, and then the tail
list_is_split : after (Split 5) (ones ∷ []) ≡ then 4 (whole_number 1 ∷ plain_list no_plains ∷ [])
unfolding op_at takes step
list_is_split = refl

no_list : after (Split 5) (yes ∷ []) ≡ is_stuck
unfolding op_at takes step
no_list = refl

record_is_made : after (MakeRec 4 2) (yes ∷ n 1 (omega arith) ∷ []) ≡ then 4 (plain_pair ∷ [])
unfolding op_at takes step
record_is_made = refl

field_is_taken : after (Field 1) (pair ∷ []) ≡ then 4 (whole_number 1 ∷ [])
unfolding op_at takes step
field_is_taken = refl

no_such_part : after (Field 2) (pair ∷ []) ≡ is_stuck
unfolding op_at takes step
no_such_part = refl

-- ---- the stack

values_slide : after (Slide 2) (no ∷ yes ∷ yes ∷ n 2 (omega arith) ∷ []) ≡ then 4 (plain_truth false ∷ whole_number 2 ∷ [])
unfolding op_at takes step
values_slide = refl

too_few_values : after (Slide 2) (yes ∷ n 2 (omega arith) ∷ []) ≡ is_stuck
unfolding op_at takes step
too_few_values = refl

-- ---- calls

-- the argument stays where it is
call : after (Call 0) (no ∷ yes ∷ []) ≡ goes_on 0 (plain_truth true ∷ plain_truth false ∷ plain_truth true ∷ [])
unfolding op_at takes step
call = refl

call_without_budget : seen (step (around (Call 0)) (on (yes ∷ []) 0)) ≡ ends_spent
unfolding op_at takes step
call_without_budget = refl

-- values and functions are looked at before the budget
call_without_argument : seen (step (around (Call 0)) (on [] 0)) ≡ is_stuck
unfolding op_at takes step
call_without_argument = refl

no_such_function : seen (step (around (Call 3)) (on (yes ∷ []) 0)) ≡ is_stuck
unfolding op_at takes step
no_such_function = refl

-- and addresses after it
no_start : after (Call 2) [] ≡ is_stuck
unfolding op_at takes step
no_start = refl

no_start_without_budget : seen (step (around (Call 2)) (on [] 0)) ≡ ends_spent
unfolding op_at takes step
no_start_without_budget = refl

-- the value goes to the caller, whose own stay
value_returns : after Ret (no ∷ n 2 (omega arith) ∷ []) ≡ goes_on 1 (plain_truth true ∷ whole_number 2 ∷ [])
unfolding op_at takes step
value_returns = refl

return_without_value : after Ret [] ≡ is_stuck
unfolding op_at takes step
return_without_value = refl

-- a trap comes before the next address, which isn't there behind the last instruction
abbrev last : Op → List ValueTree → Seen
last i own = seen (step (record { ops = i ∷ []; entries = record { start = 0; end = 1; params = 0 } ∷ [] }) (record { at = 0; stack = own; running = record { function = 0; back = 0; base = 0 }; callers = []; budget = 5 }))

trap_at_the_end : last Div (n 2 (omega arith) ∷ n 0 (omega arith) ∷ []) ≡ ends_in DivZero
unfolding op_at takes step quotient_of
trap_at_the_end = refl

sum_at_the_end : last Add (n 2 (omega arith) ∷ n 3 (omega arith) ∷ []) ≡ is_stuck
unfolding op_at takes step sum_of reduced divided fraction gcd
sum_at_the_end = refl

-- with no caller left the run ends
outermost_return : last Ret (no ∷ yes ∷ []) ≡ ends_with (plain_truth true)
unfolding op_at takes step
outermost_return = refl

-- Small views, and what their rules pass on, by computation.
use Rattle.std.proofs.Common.{◌≡◌, refl, true, false, pos, List, [], ◌∷◌, Some, None}
use Rattle.um_tree.proofs.ExamplePrograms.{one_number}
use Rattle.um_machine.specs.declared.op.Op.{Op}
use Rattle.um_machine.specs.declared.op.Op.TheVariants.{PushNum, PushBool, Load, Add, Not, Lt, Jump, JumpIfNot, MakeList, Cons, Split, MakeRec, Field, Slide, Call, Ret, Pow}
use Rattle.um_machine.specs.Stack.{takes}
use Rattle.um_verify.specs.StackShape.{StackShape, void, bool, num, list, made, fits, join, join_all, join_items}
use Rattle.um_verify.specs.Rules.{Body, View, Flow, fails, passes, to, rule}
use Rattle.um_verify.specs.Verified.{nobody, clash, arrived, met, flow}

-- ---- shapes

void_fits_all : fits (list void) (list (list num)) ≡ true
void_fits_all = refl

nothing_else_fits_void : fits num void ≡ false
nothing_else_fits_void = refl

other_records : fits (made 0) (made 1) ≡ false
other_records = refl

least_of_lists : join (list void) (list (list void)) ≡ Some (list (list void))
least_of_lists = refl

either_side : join (list bool) void ≡ Some (list bool)
either_side = refl

no_join : join (list bool) (list num) ≡ None
no_join = refl

as_long : join_all (num ∷ []) (num ∷ num ∷ []) ≡ None
as_long = refl

place_by_place : join_all (list void ∷ bool ∷ []) (list num ∷ void ∷ []) ≡ Some (list num ∷ bool ∷ [])
place_by_place = refl

no_items : join_items [] ≡ Some void
no_items = refl

-- ---- rules, at address 5 of a function from 2 to 9, behind one that takes a number and a truth value

abbrev first : Body
first = record { start = 0; end = 2; params = num ∷ bool ∷ []; result = list num }

abbrev body : Body
body = record { start = 2; end = 9; params = []; result = num }

-- record 0 has a number, and record 1 a list of records 0 and a truth value, 400 and 2 high
abbrev view : View
view = record {
  ops = [];
  bodies = first ∷ body ∷ [];
  fields = (num ∷ []) ∷ (list (made 0) ∷ bool ∷ []) ∷ [];
  heights = record { fields = []; height = 400 } ∷ record { fields = []; height = 2 } ∷ [];
}

abbrev passed_by : List StackShape → Op → Flow
passed_by st i = rule view body 5 st i

copy : passed_by (num ∷ bool ∷ []) (Load 1) ≡ to 6 (num ∷ bool ∷ bool ∷ [])
copy = refl

no_place : passed_by (num ∷ []) (Load 1) ≡ fails
no_place = refl

two_numbers : passed_by (bool ∷ num ∷ void ∷ []) Add ≡ to 6 (bool ∷ num ∷ [])
unfolding takes
two_numbers = refl

no_numbers : passed_by (num ∷ bool ∷ []) Add ≡ fails
unfolding takes
no_numbers = refl

compared_numbers : passed_by (num ∷ num ∷ []) Lt ≡ to 6 (bool ∷ [])
unfolding takes
compared_numbers = refl

one_is_too_few : passed_by (num ∷ []) Lt ≡ fails
unfolding takes
one_is_too_few = refl

one_truth : passed_by (bool ∷ []) Not ≡ to 6 (bool ∷ [])
unfolding takes
one_truth = refl

no_truth : passed_by (num ∷ []) Not ≡ fails
unfolding takes
no_truth = refl

one_number_raised : passed_by (void ∷ []) (Pow (pos 2)) ≡ to 6 (num ∷ [])
unfolding takes
one_number_raised = refl

both_ways : passed_by (num ∷ bool ∷ []) (JumpIfNot 8) ≡ passes (record { to = 6; state = num ∷ [] } ∷ record { to = 8; state = num ∷ [] } ∷ [])
unfolding takes
both_ways = refl

items_joined : passed_by (num ∷ list void ∷ list bool ∷ []) (MakeList 2) ≡ to 6 (num ∷ list (list bool) ∷ [])
unfolding takes
items_joined = refl

items_apart : passed_by (num ∷ bool ∷ []) (MakeList 2) ≡ fails
unfolding takes
items_apart = refl

head_and_tail : passed_by (bool ∷ list void ∷ []) Cons ≡ to 6 (list bool ∷ [])
unfolding takes
head_and_tail = refl

tail_is_no_list : passed_by (bool ∷ bool ∷ []) Cons ≡ fails
unfolding takes
tail_is_no_list = refl

item_and_list : passed_by (bool ∷ list num ∷ []) (Split 8) ≡ passes (record { to = 8; state = bool ∷ [] } ∷ record { to = 6; state = bool ∷ num ∷ list num ∷ [] } ∷ [])
unfolding takes
item_and_list = refl

void_twice : passed_by (void ∷ []) (Split 8) ≡ passes (record { to = 8; state = [] } ∷ record { to = 6; state = void ∷ void ∷ [] } ∷ [])
unfolding takes
void_twice = refl

parts_of_record : passed_by (list void ∷ bool ∷ []) (MakeRec 1 2) ≡ to 6 (made 1 ∷ [])
unfolding takes
parts_of_record = refl

other_number_of_parts : passed_by (num ∷ bool ∷ []) (MakeRec 0 2) ≡ fails
unfolding takes
other_number_of_parts = refl

no_record : passed_by (num ∷ bool ∷ []) (MakeRec 2 2) ≡ fails
unfolding takes
no_record = refl

part_of_record : passed_by (made 1 ∷ []) (Field 0) ≡ to 6 (list (made 0) ∷ [])
unfolding takes
part_of_record = refl

no_part : passed_by (made 0 ∷ []) (Field 1) ≡ fails
unfolding takes
no_part = refl

part_of_void : passed_by (void ∷ []) (Field 7) ≡ to 6 (void ∷ [])
unfolding takes
part_of_void = refl

slid_away : passed_by (num ∷ bool ∷ list num ∷ made 0 ∷ []) (Slide 2) ≡ to 6 (num ∷ made 0 ∷ [])
unfolding takes
slid_away = refl

called : passed_by (bool ∷ num ∷ void ∷ []) (Call 0) ≡ to 6 (bool ∷ list num ∷ [])
unfolding takes
called = refl

other_arguments : passed_by (bool ∷ num ∷ []) (Call 0) ≡ fails
unfolding takes
other_arguments = refl

returned : passed_by (bool ∷ num ∷ []) Ret ≡ passes []
unfolding takes
returned = refl

other_result : passed_by (num ∷ bool ∷ []) Ret ≡ fails
unfolding takes
other_result = refl

-- ---- functions

abbrev three : Body
three = record { start = 0; end = 3; params = bool ∷ []; result = num }

abbrev of_ops : List Op → View
of_ops ops = record { ops = ops; bodies = three ∷ []; fields = view.fields; heights = view.heights }

-- the parameters arrive at the first address, and what it passes on at the second
arrives : met (of_ops (Jump 2 ∷ Ret ∷ Ret ∷ [])) three 2 1 ≡ arrived (bool ∷ [])
arrives = refl

nobody_arrives : met (of_ops (Jump 2 ∷ Ret ∷ Ret ∷ [])) three 1 1 ≡ nobody
nobody_arrives = refl

past_the_end : flow (of_ops (Jump 3 ∷ Ret ∷ Ret ∷ [])) three 0 ≡ fails
past_the_end = refl

to_itself : flow (of_ops (Jump 0 ∷ Ret ∷ Ret ∷ [])) three 0 ≡ fails
to_itself = refl

-- the last address passes nothing on behind it
behind_the_end : flow (record { ops = PushBool true ∷ []; bodies = []; fields = []; heights = [] }) (record { start = 0; end = 1; params = []; result = bool }) 0 ≡ fails
behind_the_end = refl

-- states that arrive are joined: with and without one more value they have no join
they_clash : met (of_ops (JumpIfNot 2 ∷ PushNum one_number ∷ Ret ∷ [])) three 2 2 ≡ clash
unfolding takes
they_clash = refl

-- a list of values that are 400 high is too high
too_high : flow (of_ops (MakeList 1 ∷ Ret ∷ Ret ∷ [])) (record { start = 0; end = 3; params = made 0 ∷ []; result = num }) 0 ≡ fails
unfolding takes
too_high = refl

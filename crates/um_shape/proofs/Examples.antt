-- Faults of small programs, by computation.
use Rattle.std.proofs.Common.{◌≡◌, refl, ℕ, zero, suc, true, false, List, [], ◌∷◌, Option, Some, None}
use Rattle.um_units.specs.PowerMap.{one}
use Rattle.um_tree.specs.declared.note.UnitNote.TheVariants.{Written}
use Rattle.um_tree.specs.declared.expression.Arith.TheVariants.{Add}
use Rattle.um_tree.specs.TypeTree.{TypeTree, num_type, list_type, record_type, NoteTree, bool_note, num_note, list_note, record_note}
use Rattle.um_tree.specs.ExprTree.{ExprTree, truth, number, local, call, not_expr, arith as arith_tree, if, split, nil, list_expr, none, more}
use Rattle.um_tree.specs.ProgramTree.{RecordTree, FunctionTree, ProgramTree}
use Rattle.um_tree.proofs.ExamplePrograms.{one_number, sum, squares, weights, make, pick}
use Rattle.um_shape.specs.FirstFault.{wrong_shape, too_deep, first_fault}

-- a number text without a unit
abbrev digit : ℕ → ExprTree
digit at = number at one_number (Written one)

abbrev plain_num : NoteTree
plain_num = num_note (Written one)

abbrev function : ℕ → List NoteTree → Option NoteTree → ExprTree → FunctionTree
function at params result body = record { name = []; at = at; recursive = false; units = 0; params = params; named = 0; result = result; body = body }

abbrev recursive_function : ℕ → List NoteTree → NoteTree → ExprTree → FunctionTree
recursive_function at params result body = record { name = []; at = at; recursive = true; units = 0; params = params; named = 0; result = Some result; body = body }

abbrev of_functions : List FunctionTree → ProgramTree
of_functions fs = record { bases = []; records = []; functions = fs }

-- let k = BODY
abbrev constant : ExprTree → ProgramTree
constant body = of_functions (function 4 [] None body ∷ [])

-- let k = if 1 then 2 else 3
condition : first_fault (constant (if 8 (digit 11) (digit 18) (digit 25))) ≡ Some (wrong_shape 8)
condition = refl

-- let k = ([] : num)
no_list : first_fault (constant (nil 8 plain_num)) ≡ Some (wrong_shape 8)
no_list = refl

-- let f (x: num) : bool = x
other_result : first_fault (of_functions (function 4 (plain_num ∷ []) (Some bool_note) (local 24 0) ∷ [])) ≡ Some (wrong_shape 4)
other_result = refl

-- let k = 1 + true
truth_added : first_fault (constant (arith_tree 10 Add (digit 8) (truth 12 true))) ≡ Some (wrong_shape 10)
truth_added = refl

-- let k = match 1 with [] -> not 1 | x :: r -> 1: the part before the arms
match_of_number : first_fault (constant (split 8 (digit 14) (not_expr 29 (digit 33)) (digit 45))) ≡ Some (wrong_shape 8)
match_of_number = refl

-- let k = match [1] with [] -> not 1 | x :: r -> true: then the first arm
match_of_list : first_fault (constant (split 8 (list_expr 14 (more (digit 15) none)) (not_expr 29 (digit 33)) (truth 45 true))) ≡ Some (wrong_shape 29)
match_of_list = refl

-- n lists of numbers within one another
abbrev lists : ℕ → NoteTree
lists zero = plain_num
lists (suc n) = list_note (lists n)

-- let k = [([] : T)], where T is 400 and 399 high
too_tall : first_fault (constant (list_expr 8 (more (nil 9 (lists 399)) none))) ≡ Some (too_deep 8)
too_tall = refl

tall : first_fault (constant (list_expr 8 (more (nil 9 (lists 398)) none))) ≡ None
tall = refl

-- the rule is looked at before the height: [([] : T); 1]
rule_first : first_fault (constant (list_expr 8 (more (nil 9 (lists 399)) (more (digit 20) none)))) ≡ Some (wrong_shape 8)
rule_first = refl

-- type R = { a: num list }, as high as 3, in lists
abbrev holder : ℕ → TypeTree → RecordTree
holder at t = record { name = []; at = at; units = 0; fields = record { name = []; type = t } ∷ [] }

abbrev list_types : ℕ → TypeTree
list_types zero = num_type one
list_types (suc n) = list_type (list_types n)

-- a record of a field that is 399 high, and one of 400; a record of this record
record_tall : first_fault (record { bases = []; records = holder 5 (list_types 398) ∷ []; functions = [] }) ≡ None
record_tall = refl

record_too_tall : first_fault (record { bases = []; records = holder 5 (list_types 398) ∷ holder 30 (record_type 0 []) ∷ []; functions = [] }) ≡ Some (too_deep 30)
record_too_tall = refl

-- records are looked at before functions
records_first : first_fault (record { bases = []; records = holder 5 (list_types 399) ∷ []; functions = function 40 [] None (not_expr 48 (digit 52)) ∷ [] }) ≡ Some (too_deep 5)
records_first = refl

-- let f (x: R list) = not 1, where R is 400 high: the parameter comes before the body
parameter_first : first_fault (record { bases = []; records = holder 5 (list_types 398) ∷ []; functions = function 40 (list_note (record_note 0 []) ∷ []) None (not_expr 58 (digit 62)) ∷ [] }) ≡ Some (too_deep 40)
parameter_first = refl

-- let rec f (x: num) : R list = f x, where R is 400 high: the call is the first node
own_call_too_tall : first_fault (record { bases = []; records = holder 5 (list_types 398) ∷ []; functions = recursive_function 40 (plain_num ∷ []) (list_note (record_note 0 [])) (call 68 0 (more (local 70 0) none)) ∷ [] }) ≡ Some (too_deep 68)
own_call_too_tall = refl

-- the worked programs of the language have no fault
sum_has_none : first_fault sum ≡ None
sum_has_none = refl

squares_has_none : first_fault squares ≡ None
squares_has_none = refl

weights_has_none : first_fault weights ≡ None
weights_has_none = refl

make_has_none : first_fault make ≡ None
make_has_none = refl

pick_has_none : first_fault pick ≡ None
pick_has_none = refl

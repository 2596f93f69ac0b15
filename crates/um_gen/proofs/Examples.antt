-- The code of small programs, by computation.
use Rattle.std.proofs.Common.{◌≡◌, refl, true, false, List, [], ◌∷◌, pos}
use Rattle.um_tree.specs.declared.note.UnitNote.TheVariants.{Hole}
use Rattle.um_tree.specs.declared.expression.Arith.TheVariants.{Add, Div}
use Rattle.um_tree.specs.declared.expression.Sign.TheVariants as sign
use Rattle.um_tree.specs.TypeTree.{num_note}
use Rattle.um_tree.specs.ExprTree.{ExprTree, truth, local, call, negate, not_expr, pown, arith as arith_tree, compare, both, either, bind, split, nil, list_expr, cons, field, none, more}
use Rattle.um_tree.specs.ProgramTree.{FunctionTree}
use Rattle.um_tree.proofs.ExamplePrograms.{zero_number, one_number, plain, area, zeros, squares, sum, make}
use Rattle.um_machine.specs.declared.op.Op.{Op}
use Rattle.um_machine.specs.declared.op.Op.TheVariants as op
use Rattle.um_machine.proofs.ExampleCode.{sum_code, area_code}
use Rattle.um_gen.specs.ProgramCode.{expr_code, program_code}

-- let area (x: num<_>) (y: num<_>) = x * y
area_is : program_code area.functions ≡ area_code
unfolding program_code
area_is = refl

-- let rec sum (l: num<_> list) : num<_> = match l with [] -> 0<_> | x :: r -> x + sum r
sum_is : program_code sum.functions ≡ sum_code
unfolding program_code
sum_is = refl

-- let z = 0<_> and let w = 0<_> * 0<_>: addresses count over the whole program
zeros_are : program_code zeros.functions ≡ record { ops = op.PushNum zero_number ∷ op.Ret ∷ op.PushNum zero_number ∷ op.PushNum zero_number ∷ op.Mul ∷ op.Ret ∷ []; entries = record { start = 0; end = 2; params = 0 } ∷ record { start = 2; end = 6; params = 0 } ∷ [] }
unfolding program_code
zeros_are = refl

-- let rec f (n: num) (x: num<_>) : num<_> = if n < 1 then x else f (n - 1) (x * x)
squares_are : program_code squares.functions ≡ record { ops = op.Load 0 ∷ op.PushNum one_number ∷ op.Lt ∷ op.JumpIfNot 6 ∷ op.Load 1 ∷ op.Jump 13 ∷ op.Load 0 ∷ op.PushNum one_number ∷ op.Sub ∷ op.Load 1 ∷ op.Load 1 ∷ op.Mul ∷ op.Call 0 ∷ op.Ret ∷ []; entries = record { start = 0; end = 14; params = 2 } ∷ [] }
unfolding program_code
squares_are = refl

-- let twice (x: num<_>) = x + x, let same (x: num<_>) = x, and let both (x: num<_>) = same (twice x)
abbrev chained : List FunctionTree
chained =
    plain (num_note Hole ∷ []) (arith_tree 0 Add (local 0 0) (local 0 0))
    ∷ plain (num_note Hole ∷ []) (local 0 0)
    ∷ plain (num_note Hole ∷ []) (call 0 1 (more (call 0 0 (more (local 0 0) none)) none))
    ∷ []

chained_are : program_code chained ≡ record { ops = op.Load 0 ∷ op.Load 0 ∷ op.Add ∷ op.Ret ∷ op.Load 0 ∷ op.Ret ∷ op.Load 0 ∷ op.Call 0 ∷ op.Call 1 ∷ op.Ret ∷ []; entries = record { start = 0; end = 4; params = 1 } ∷ record { start = 4; end = 6; params = 1 } ∷ record { start = 6; end = 10; params = 1 } ∷ [] }
unfolding program_code
chained_are = refl

-- let mk = { x = 1 }
make_is : program_code make.functions ≡ record { ops = op.PushNum one_number ∷ op.MakeRec 0 1 ∷ op.Ret ∷ []; entries = record { start = 0; end = 3; params = 0 } ∷ [] }
unfolding program_code
make_is = refl

-- ---- nodes, from address 10 on, with two variables at the places 0 and 1

abbrev code : ExprTree → List Op
code e = expr_code e (0 ∷ 1 ∷ []) 2 10

abbrev x : ExprTree
x = local 0 0

abbrev y : ExprTree
y = local 0 1

-- x && y
conjunction : code (both 0 x y) ≡ op.Load 0 ∷ op.JumpIfNot 14 ∷ op.Load 1 ∷ op.Jump 15 ∷ op.PushBool false ∷ []
conjunction = refl

-- x || y
disjunction : code (either 0 x y) ≡ op.Load 0 ∷ op.JumpIfNot 14 ∷ op.PushBool true ∷ op.Jump 15 ∷ op.Load 1 ∷ []
disjunction = refl

-- the signs of comparison
less : code (compare 0 sign.Lt x y) ≡ op.Load 0 ∷ op.Load 1 ∷ op.Lt ∷ []
less = refl

at_most : code (compare 0 sign.Le x y) ≡ op.Load 0 ∷ op.Load 1 ∷ op.Le ∷ []
at_most = refl

equal : code (compare 0 sign.Eq x y) ≡ op.Load 0 ∷ op.Load 1 ∷ op.Eq ∷ []
equal = refl

greater : code (compare 0 sign.Gt x y) ≡ op.Load 0 ∷ op.Load 1 ∷ op.Le ∷ op.Not ∷ []
greater = refl

at_least : code (compare 0 sign.Ge x y) ≡ op.Load 0 ∷ op.Load 1 ∷ op.Lt ∷ op.Not ∷ []
at_least = refl

other : code (compare 0 sign.Ne x y) ≡ op.Load 0 ∷ op.Load 1 ∷ op.Eq ∷ op.Not ∷ []
other = refl

-- let z = x in z / y: the variable stands where its value was pushed
local_variable : code (bind 0 x (arith_tree 0 Div (local 0 2) y)) ≡ op.Load 0 ∷ op.Load 2 ∷ op.Load 1 ∷ op.Div ∷ op.Slide 1 ∷ []
local_variable = refl

-- x + (let z = y in z): behind what was pushed before it
deeper_variable : code (arith_tree 0 Add x (bind 0 y (local 0 2))) ≡ op.Load 0 ∷ op.Load 1 ∷ op.Load 3 ∷ op.Slide 1 ∷ op.Add ∷ []
deeper_variable = refl

-- match x with [] -> y | h :: t -> t
list_arms : code (split 0 x y (local 0 3)) ≡ op.Load 0 ∷ op.Split 15 ∷ op.Load 3 ∷ op.Slide 2 ∷ op.Jump 16 ∷ op.Load 1 ∷ []
list_arms = refl

-- [x; y], ([] : num<_>), x :: y
lists : code (list_expr 0 (more x (more y none))) ≡ op.Load 0 ∷ op.Load 1 ∷ op.MakeList 2 ∷ []
lists = refl

empty : code (nil 0 (num_note Hole)) ≡ op.MakeList 0 ∷ []
empty = refl

longer : code (cons 0 x y) ≡ op.Load 0 ∷ op.Load 1 ∷ op.Cons ∷ []
longer = refl

-- -x, not x, pown x 3, x.f
signs : code (negate 0 x) ≡ op.Load 0 ∷ op.Neg ∷ []
signs = refl

denial : code (not_expr 0 (truth 0 true)) ≡ op.PushBool true ∷ op.Not ∷ []
denial = refl

power : code (pown 0 x (pos 3)) ≡ op.Load 0 ∷ op.Pow (pos 3) ∷ []
power = refl

part : code (field 0 7 2 x) ≡ op.Load 0 ∷ op.Field 2 ∷ []
part = refl

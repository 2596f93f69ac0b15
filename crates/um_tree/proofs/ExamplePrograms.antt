-- Small programs, on which the definitions are tried.
use Rattle.std.proofs.Common.{ℕ, ◌≤◌, true, false, List, [], ◌∷◌, pos, Some, None, arith}
use Rattle.std.proofs.lemmas.Int.{ints}
use Rattle.um_units.specs.declared.Atom.TheVariants.{Base}
use Rattle.um_units.specs.PowerMap.{PowerMap, one, atom, mul, inv}
use Rattle.um_frac.specs.declared.number.Frac.{Frac}
use Rattle.um_frac.proofs.Gcd.{gcd-one}
use Rattle.um_tree.specs.declared.note.UnitNote.TheVariants.{Hole, Written}
use Rattle.um_tree.specs.declared.expression.Arith.TheVariants.{Add, Sub, Mul}
use Rattle.um_tree.specs.declared.expression.Sign.TheVariants.{Lt}
use Rattle.um_tree.specs.TypeTree.{num_type, NoteTree, bool_note, num_note, list_note, record_note}
use Rattle.um_tree.specs.ExprTree.{ExprTree, number, local, call, arith as arith_tree, compare, if, split, record_expr, none, more}
use Rattle.um_tree.specs.ProgramTree.{RecordTree, FunctionTree, ProgramTree}

-- a small whole number
abbrev pub whole : (n : ℕ) → n ≤ 1000000 → Frac
whole n low = record {
  num = pos n;
  den = pos 1;
  positive = omega (arith, ints);
  den_fits = omega (arith, ints);
  above = omega (arith, ints);
  num_fits = omega (arith, ints, low);
  lowest = gcd-one n;
}

abbrev pub zero_number : Frac
zero_number = whole 0 (omega arith)

abbrev pub one_number : Frac
one_number = whole 1 (omega arith)

-- m, s and kg are the base units 0, 1 and 2
abbrev pub metre : PowerMap
metre = atom (Base 0)

abbrev pub second : PowerMap
second = atom (Base 1)

abbrev pub kilogram : PowerMap
kilogram = atom (Base 2)

-- a function without a name that does not call itself and has no result note
abbrev pub plain : List NoteTree → ExprTree → FunctionTree
plain ns e = record { name = []; at = 0; recursive = false; units = 0; params = ns; named = 0; result = None; body = e }

abbrev pub rec_function : List NoteTree → NoteTree → ExprTree → FunctionTree
rec_function ns n e = record { name = []; at = 0; recursive = true; units = 0; params = ns; named = 0; result = Some n; body = e }

abbrev pub with_functions : List FunctionTree → ProgramTree
with_functions fs = record { bases = []; records = []; functions = fs }

-- let area (x: num<m>) (y: num<m>) = x * y
abbrev pub area_of_metres : ProgramTree
area_of_metres = with_functions (plain (num_note (Written metre) ∷ num_note (Written metre) ∷ []) (arith_tree 0 Mul (local 0 0) (local 0 1)) ∷ [])

-- let area (x: num<_>) (y: num<_>) = x * y
abbrev pub area : ProgramTree
area = with_functions (plain (num_note Hole ∷ num_note Hole ∷ []) (arith_tree 0 Mul (local 0 0) (local 0 1)) ∷ [])

-- let id (x: num<_>) = x
abbrev pub identity : ProgramTree
identity = with_functions (plain (num_note Hole ∷ []) (local 0 0) ∷ [])

-- let z = 0<_> and let w = 0<_> * 0<_>
abbrev pub zeros : ProgramTree
zeros = with_functions (plain [] (number 0 zero_number Hole) ∷ plain [] (arith_tree 0 Mul (number 0 zero_number Hole) (number 0 zero_number Hole)) ∷ [])

-- let rec f (n: num) (x: num<_>) : num<_> = if n < 1 then x else f (n - 1) (x * x)
abbrev pub squares : ProgramTree
squares = with_functions (rec_function (num_note (Written one) ∷ num_note Hole ∷ []) (num_note Hole) (if 0 (compare 0 Lt (local 0 0) (number 0 one_number (Written one)))
    (local 0 1)
    (call 0 0 (more (arith_tree 0 Sub (local 0 0) (number 0 one_number (Written one))) (more (arith_tree 0 Mul (local 0 1) (local 0 1)) none)))) ∷ [])

-- let rec sum (l: num<_> list) : num<_> = match l with [] -> 0<_> | x :: r -> x + sum r
abbrev pub sum : ProgramTree
sum = with_functions (rec_function (list_note (num_note Hole) ∷ []) (num_note Hole) (split 0 (local 0 0) (number 0 zero_number Hole) (arith_tree 0 Add (local 0 1) (call 0 0 (more (local 0 2) none)))) ∷ [])

-- kg m/s^2
abbrev pub newton : PowerMap
newton = mul (mul kilogram metre) (inv (mul second second))

-- let weight (k: num<kg>) = k * 9<m/s^2>, let push (f: num<N>) = f, let lift (k: num<kg>) = push (weight k)
abbrev pub weights : ProgramTree
weights = with_functions (plain (num_note (Written kilogram) ∷ []) (arith_tree 0 Mul (local 0 0) (number 0 (whole 9 (omega arith)) (Written (mul metre (inv (mul second second))))))
    ∷ plain (num_note (Written newton) ∷ []) (local 0 0)
    ∷ plain (num_note (Written kilogram) ∷ []) (call 0 1 (more (call 0 0 (more (local 0 0) none)) none))
    ∷ [])

-- type V<[<Measure>] 'u> = { x: num }
abbrev pub marked : RecordTree
marked = record { name = []; at = 0; units = 1; fields = record { name = []; type = num_type one } ∷ [] }

-- let mk = { x = 1 }
abbrev pub make : ProgramTree
make = record { bases = []; records = marked ∷ []; functions = plain [] (record_expr 0 0 (more (number 0 one_number (Written one)) none)) ∷ [] }

-- let pick (b: bool) (p: V<m>) (q: V<s>) = if b then p else q
abbrev pub pick : ProgramTree
pick = record { bases = []; records = marked ∷ []; functions = plain (bool_note ∷ record_note 0 (Written metre ∷ []) ∷ record_note 0 (Written second ∷ []) ∷ []) (if 0 (local 0 0) (local 0 1) (local 0 2)) ∷ [] }

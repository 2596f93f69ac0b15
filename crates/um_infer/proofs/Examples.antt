-- Small programs, and what their inference comes to, by computation of the definition.
use Rattle.std.proofs.Common.{◌≡◌, ℕ, List, [], ◌∷◌, map, ℤ, pos, codes, refl}
use Rattle.um_units.specs.declared.Atom.{Atom}
use Rattle.um_units.specs.declared.Atom.TheVariants.{Base, Var}
use Rattle.um_units.specs.declared.Term.{Term}
use Rattle.um_units.specs.PowerMap.{product, atom}
use Rattle.um_tree.specs.declared.note.UnitNote.TheVariants.{Hole, Written}
use Rattle.um_tree.specs.declared.expression.Arith.TheVariants.{Add, Mul}
use Rattle.um_tree.specs.TypeTree.{TypeTree, bool_type, num_type, list_type, record_type, num_note}
use Rattle.um_tree.specs.ExprTree.{number, local, call, arith as arith_tree, none, more}
use Rattle.um_tree.specs.ProgramTree.{FunctionTree, ProgramTree, SchemeTree}
use Rattle.um_tree.proofs.ExamplePrograms.{one_number, metre, second, plain, with_functions}
use Rattle.um_infer.specs.Inference.{Inference, all_schemes, stops_at_slots, stops_at_range, stops_at_units, stops_at_not_general, infer}

abbrev term : Atom → ℤ → Term
term x k = record { atom = x; power = k }

-- the unit of a number
abbrev unit_of : TypeTree → List Term
unit_of bool_type = []
unit_of (num_type u) = u.terms
unit_of (list_type t) = []
unit_of (record_type r us) = []

-- a scheme of numbers
record ShownScheme : Type 0 where
  params : List (List Term)
  result : List Term
  vars : ℕ

abbrev shown_scheme : SchemeTree → ShownScheme
shown_scheme s = record { params = map unit_of s.signature.params; result = unit_of s.signature.result; vars = s.vars }

data Shown : Type 0 where
  schemes : List ShownScheme → Shown
  slots : ℕ → Shown
  range : ℕ → ℕ → Shown
  units : ℕ → ℕ → ℕ → Shown
  less_general : ℕ → ℕ → ℕ → Shown

abbrev shown : Inference → Shown
shown (all_schemes ss) = schemes (map shown_scheme ss)
shown (stops_at_slots i) = slots i
shown (stops_at_range i at) = range i at
shown (stops_at_units i row at) = units i row at
shown (stops_at_not_general i row at) = less_general i row at

-- let double (x: num<_>) = x + x
abbrev double : FunctionTree
double = plain (num_note Hole ∷ []) (arith_tree 2 Add (local 1 0) (local 3 0))

-- and let moment (x: num<m>) (t: num<s>) = double x * double t: double is used at two units
abbrev two_units : ProgramTree
two_units =
    with_functions (double ∷ plain (num_note (Written metre) ∷ num_note (Written second) ∷ []) (arith_tree 3 Mul (call 1 0 (more (local 2 0) none)) (call 4 0 (more (local 5 1) none))) ∷ [])

-- num<'a> -> num<'a>, and num<m> -> num<s> -> num<m s>
two_units_inferred :
    shown (infer two_units) ≡
    schemes (record { params = (term (Var 0) (pos 1) ∷ []) ∷ []; result = term (Var 0) (pos 1) ∷ []; vars = 1 }
    ∷ record { params = (term (Base 0) (pos 1) ∷ []) ∷ (term (Base 1) (pos 1) ∷ []) ∷ []; result = term (Base 0) (pos 1) ∷ term (Base 1) (pos 1) ∷ []; vars = 0 } ∷ [])
unfolding product
two_units_inferred = refl

-- double, let off (x: num<m>) = double x * x + x, and a function that is not looked at, which has no typing either: the sum
-- of off has two units
abbrev off : FunctionTree
off = plain (num_note (Written metre) ∷ []) (arith_tree 5 Add (arith_tree 3 Mul (call 1 0 (more (local 2 0) none)) (local 4 0)) (local 6 0))

off_refused : shown (infer (with_functions (double ∷ off ∷ off ∷ []))) ≡ units 1 1 5
unfolding product
off_refused = refl

-- let square (x: num<_>) = x * x, and let far (x: num<m^2147483647>) = square x: the result passes the range at the name
abbrev square : FunctionTree
square = plain (num_note Hole ∷ []) (arith_tree 2 Mul (local 1 0) (local 3 0))

abbrev far : FunctionTree
far = record (plain (num_note (Written (product (term (Base 0) (pos 2147483647) ∷ []))) ∷ []) (call 8 0 (more (local 9 0) none))) { at = 7 }

far_refused : shown (infer (with_functions (square ∷ far ∷ []))) ≡ range 1 7
unfolding product
far_refused = refl

-- ---- unit parameters, behind one base unit
abbrev of_metres : List FunctionTree → ProgramTree
of_metres fs = record { bases = codes "m" ∷ []; records = []; functions = fs }

-- let total<'u> (x: num<'u>) (y: num<_>) = x + y, and let length (x: num<m>) = total x x: a caller puts any unit
abbrev total : FunctionTree
total = record (plain (num_note (Written (atom (Var 0))) ∷ num_note Hole ∷ []) (arith_tree 2 Add (local 1 0) (local 3 1))) { units = 1; named = 1 }

abbrev length_of : FunctionTree
length_of = plain (num_note (Written metre) ∷ []) (call 1 0 (more (local 2 0) (more (local 3 0) none)))

-- num<'a> -> num<'a> -> num<'a>, and num<m> -> num<m>
total_inferred :
    shown (infer (of_metres (total ∷ length_of ∷ []))) ≡
    schemes (record { params = (term (Var 0) (pos 1) ∷ []) ∷ (term (Var 0) (pos 1) ∷ []) ∷ []; result = term (Var 0) (pos 1) ∷ []; vars = 1 }
    ∷ record { params = (term (Base 0) (pos 1) ∷ []) ∷ []; result = term (Base 0) (pos 1) ∷ []; vars = 0 } ∷ [])
unfolding product
total_inferred = refl

-- let fixed<'u> (x: num<'u>) = x + 1<m>: metres would do
abbrev fixed : FunctionTree
fixed = record (plain (num_note (Written (atom (Var 0))) ∷ []) (arith_tree 2 Add (local 1 0) (number 3 one_number (Written metre)))) { units = 1; named = 1 }

fixed_refused : shown (infer (of_metres (double ∷ fixed ∷ []))) ≡ less_general 1 0 2
unfolding product
fixed_refused = refl

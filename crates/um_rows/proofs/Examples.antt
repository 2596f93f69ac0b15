-- The equations of small functions, by computation of the definition.
use Rattle.std.proofs.Common.{◌≡◌, ℕ, zero, suc, ◌<◌, ◌≤◌, false, not, cond, leb, eqb, List, [], ◌∷◌, map, length, filter, ℤ, pos, negsuc, Some, refl, ap, ◌∙◌, arith, lit≤, lit<}
use Rattle.std.proofs.lemmas.Bool.{eqb-true, false_from_ne_true}
use Rattle.std.proofs.lemmas.Bool.Decides.{nat_tests}
use Rattle.std.proofs.lemmas.List.{append-nil}
use Rattle.um_units.specs.declared.Atom.{Atom}
use Rattle.um_units.specs.declared.Atom.TheVariants.{Base, Var}
use Rattle.um_units.specs.declared.Term.{Term}
use Rattle.um_units.specs.PowerMap.{PowerMap, product, one, atom}
use Rattle.um_tree.specs.declared.note.UnitNote.TheVariants.{Hole, Written}
use Rattle.um_tree.specs.declared.expression.Arith.TheVariants.{Add, Mul}
use Rattle.um_tree.specs.declared.expression.Sign.TheVariants.{Lt}
use Rattle.um_tree.specs.TypeTree.{TypeTree, bool_type, num_type, list_type, record_type, NoteTree, bool_note, num_note, list_note, record_note}
use Rattle.um_tree.specs.ExprTree.{ExprTree, number, local, call, pown, arith as arith_tree, compare, both, if, split, nil, cons, record_expr, field, none, more}
use Rattle.um_tree.specs.ProgramTree.{RecordTree, FunctionTree, SchemeTree}
use Rattle.um_tree.proofs.ExamplePrograms.{zero_number, one_number, plain, rec_function, marked}
use Rattle.um_equal_types.specs.declared.row.Row.{Row}
use Rattle.um_equal_types.specs.Steps.{Step, rows_of, first_past}
use Rattle.um_elim.proofs.Cases.{on_test}
use Rattle.um_slots.specs.Keys.{hole, hole_keys}
use Rattle.um_slots.specs.Slots.{same_key, slot_order, slot_count}
use Rattle.um_rows.specs.Equations.{slot_equations}
use Rattle.um_rows.specs.Judgement.{Judgement, has_scheme, too_many_slots, passes_range, has_no_typing, not_general, judge}
use Rattle.um_slots.specs.CallFunction.{call_function}
use Rattle.um_tree.specs.ValueTree.{InputTree, InputTrees, number_input, list_input, no_inputs, more_inputs}

abbrev term : Atom → ℤ → Term
term x k = record { atom = x; power = k }

-- a type with its units as their terms
data Shown : Type 0 where
  bool : Shown
  num : List Term → Shown
  list : Shown → Shown
  made : ℕ → List (List Term) → Shown

abbrev shown : TypeTree → Shown
shown bool_type = bool
shown (num_type u) = num u.terms
shown (list_type t) = list (shown t)
shown (record_type r us) = made r (map (λ (u : PowerMap). u.terms) us)

-- the rows with their places, and the terms of their units
abbrev shown_rows : List Step → List (ℕ × List Term)
shown_rows ss = map (λ (r : Row). (r.at, r.unit.terms)) (rows_of ss)

record Summary : Type 0 where
  slots : ℕ
  rows : List (ℕ × List Term)
  params : List Shown
  result : Shown

abbrev summary : List RecordTree → List SchemeTree → ℕ → FunctionTree → Summary
summary records schemes i f =
    let e = slot_equations records schemes i f in
    record { slots = slot_count records schemes i f; rows = shown_rows e.steps; params = map shown e.params; result = shown e.result }

-- the variable of a slot
abbrev own : ℕ → List Term
own k = term (Var k) (pos 1) ∷ []

-- let g (x: num<_>) (y: num<_>) = x * x < y * y * y: one row, at the place of `<`
abbrev squares_under_cubes : FunctionTree
squares_under_cubes = plain (num_note Hole ∷ num_note Hole ∷ []) (compare 4 Lt (arith_tree 2 Mul (local 1 0) (local 3 0)) (arith_tree 8 Mul (arith_tree 6 Mul (local 5 1) (local 7 1)) (local 9 1)))

squares_under_cubes_equations :
    summary [] [] 0 squares_under_cubes ≡
    record { slots = 2; rows = (4, term (Var 0) (pos 2) ∷ term (Var 1) (negsuc 2) ∷ []) ∷ []; params = num (own 0) ∷ num (own 1) ∷ []; result = bool }
unfolding product
squares_under_cubes_equations = refl

-- let w (x: num<_>) (y: num<_>) = x * y: no row
abbrev area : FunctionTree
area = plain (num_note Hole ∷ num_note Hole ∷ []) (arith_tree 2 Mul (local 1 0) (local 3 1))

area_equations : summary [] [] 0 area ≡ record { slots = 2; rows = []; params = num (own 0) ∷ num (own 1) ∷ []; result = num (term (Var 0) (pos 1) ∷ term (Var 1) (pos 1) ∷ []) }
unfolding product
area_equations = refl

-- let w = 0<_> * 0<_>: two slots, although there is no parameter
abbrev zeros : FunctionTree
zeros = plain [] (arith_tree 2 Mul (number 1 zero_number Hole) (number 3 zero_number Hole))

zeros_equations : summary [] [] 0 zeros ≡ record { slots = 2; rows = []; params = []; result = num (term (Var 0) (pos 1) ∷ term (Var 1) (pos 1) ∷ []) }
unfolding product
zeros_equations = refl

-- let r (x: num<m^2147483647>) = x * x: the first step that passes the range is the type of the product
abbrev past_the_range : FunctionTree
past_the_range = plain (num_note (Written (product (term (Base 0) (pos 2147483647) ∷ []))) ∷ []) (arith_tree 2 Mul (local 1 0) (local 3 0))

past_at_the_product : first_past (slot_equations [] [] 0 past_the_range).steps ≡ Some 2
unfolding product
past_at_the_product = refl

-- let h (x: num<_>) (y: num<'u>) = y < x: a named variable has its slot where it first occurs
abbrev named_second : FunctionTree
named_second = plain (num_note Hole ∷ num_note (Written (atom (Var 0))) ∷ []) (compare 2 Lt (local 1 1) (local 3 0))

named_second_equations :
    summary [] [] 0 named_second ≡ record { slots = 2; rows = (2, term (Var 0) (negsuc 0) ∷ term (Var 1) (pos 1) ∷ []) ∷ []; params = num (own 0) ∷ num (own 1) ∷ []; result = bool }
unfolding product
named_second_equations = refl

-- num<'a> -> num<'b> -> num<'a 'b>, the scheme of function 0, and let twice (x: num<_>) = w (w x x) x: each call has two
-- slots of its own, those of the outer call first, and two rows at its place
abbrev area_scheme : SchemeTree
area_scheme = record { signature = record { params = num_type (atom (Var 0)) ∷ num_type (atom (Var 1)) ∷ []; result = num_type (product (term (Var 0) (pos 1) ∷ term (Var 1) (pos 1) ∷ [])) }; vars = 2 }

abbrev calls : FunctionTree
calls = plain (num_note Hole ∷ []) (call 1 0 (more (call 2 0 (more (local 3 0) (more (local 4 0) none))) (more (local 5 0) none)))

calls_equations :
    summary [] (area_scheme ∷ []) 1 calls ≡
    record {
      slots = 5;
      rows = (2, term (Var 0) (negsuc 0) ∷ term (Var 3) (pos 1) ∷ []) ∷ (2, term (Var 0) (negsuc 0) ∷ term (Var 4) (pos 1) ∷ [])
          ∷ (1, term (Var 1) (pos 1) ∷ term (Var 3) (negsuc 0) ∷ term (Var 4) (negsuc 0) ∷ []) ∷ (1, term (Var 0) (negsuc 0) ∷ term (Var 2) (pos 1) ∷ []) ∷ [];
      params = num (own 0) ∷ [];
      result = num (term (Var 1) (pos 1) ∷ term (Var 2) (pos 1) ∷ []);
    }
unfolding product
calls_equations = refl

-- let rec sum (l: num<_> list) : num<_> = match l with [] -> 0<_> | x :: r -> x + sum r: a call of the function itself has
-- no slots, and the last row is the body against the result's note
abbrev sum : FunctionTree
sum = rec_function (list_note (num_note Hole) ∷ []) (num_note Hole) (split 1 (local 2 0) (number 3 zero_number Hole) (arith_tree 5 Add (local 4 1) (call 6 0 (more (local 7 2) none))))

sum_equations :
    summary [] [] 0 sum ≡
    record {
      slots = 3;
      rows = (6, []) ∷ (5, term (Var 0) (pos 1) ∷ term (Var 1) (negsuc 0) ∷ []) ∷ (1, term (Var 0) (negsuc 0) ∷ term (Var 2) (pos 1) ∷ []) ∷ (0, term (Var 1) (negsuc 0) ∷ term (Var 2) (pos 1) ∷ []) ∷ [];
      params = list (num (own 0)) ∷ [];
      result = num (own 2);
    }
unfolding product
sum_equations = refl

-- type V<[<Measure>] 'u> = { x: num }, let make = { x = 1 }: a slot for the record's unit, and a row that asks nothing
make_equations : summary (marked ∷ []) [] 0 (plain [] (record_expr 1 0 (more (number 2 one_number (Written one)) none))) ≡ record { slots = 1; rows = (1, []) ∷ []; params = []; result = made 0 (own 0 ∷ []) }
unfolding product
make_equations = refl

-- let pick (b: bool) (p: V<m>) (q: V<s>) = if b then p else q: one row for the record's one unit
pick_equations :
    summary (marked ∷ []) [] 0 (plain (bool_note ∷ record_note 0 (Written (atom (Base 0)) ∷ []) ∷ record_note 0 (Written (atom (Base 1)) ∷ []) ∷ []) (if 1 (local 2 0) (local 3 1) (local 4 2))) ≡
    record { slots = 0; rows = (1, term (Base 0) (pos 1) ∷ term (Base 1) (negsuc 0) ∷ []) ∷ []; params = bool ∷ made 0 ((term (Base 0) (pos 1) ∷ []) ∷ []) ∷ made 0 ((term (Base 1) (pos 1) ∷ []) ∷ []) ∷ []; result = made 0 ((term (Base 0) (pos 1) ∷ []) ∷ []) }
unfolding product
pick_equations = refl

-- let first (p: V<_>) = p.x: the field's type with the record's unit in it
first_equations : summary (marked ∷ []) [] 0 (plain (record_note 0 (Hole ∷ []) ∷ []) (field 2 0 0 (local 1 0))) ≡ record { slots = 1; rows = []; params = made 0 (own 0 ∷ []) ∷ []; result = num [] }
unfolding product
first_equations = refl

-- ([] : num<_> list): a slot for the hole of its note
empty_equations : summary [] [] 0 (plain [] (nil 1 (list_note (num_note Hole)))) ≡ record { slots = 1; rows = []; params = []; result = list (num (own 0)) }
unfolding product
empty_equations = refl

-- ---- judgements
data ShownJudgement : Type 0 where
  scheme : List Shown → Shown → ℕ → ShownJudgement
  slots : ShownJudgement
  range : ℕ → ShownJudgement
  units : ℕ → ℕ → ShownJudgement
  less_general : ℕ → ℕ → ShownJudgement

abbrev shown_judgement : Judgement → ShownJudgement
shown_judgement (has_scheme s) = scheme (map shown s.signature.params) (shown s.signature.result) s.vars
shown_judgement too_many_slots = slots
shown_judgement (passes_range at) = range at
shown_judgement (has_no_typing k at) = units k at
shown_judgement (not_general k at) = less_general k at

-- num</'a^3> -> num</'a^2> -> bool
squares_under_cubes_judged : shown_judgement (judge 2 [] [] 0 squares_under_cubes) ≡ scheme (num (term (Var 0) (negsuc 2) ∷ []) ∷ num (term (Var 0) (negsuc 1) ∷ []) ∷ []) bool 1
unfolding product
squares_under_cubes_judged = refl

-- num<'a> list -> num<'a>
sum_judged : shown_judgement (judge 2 [] [] 0 sum) ≡ scheme (list (num (own 0)) ∷ []) (num (own 0)) 1
unfolding product
sum_judged = refl

-- let h (x: num<_>) = x * x < 1<m^3>: no half powers
half_powers_judged : shown_judgement (judge 2 [] [] 0 (plain (num_note Hole ∷ []) (compare 4 Lt (arith_tree 2 Mul (local 1 0) (local 3 0)) (number 5 one_number (Written (product (term (Base 0) (pos 3) ∷ []))))))) ≡ units 0 4
unfolding product
half_powers_judged = refl

past_the_range_judged : shown_judgement (judge 2 [] [] 0 past_the_range) ≡ range 2
unfolding product
past_the_range_judged = refl

-- ---- calls of sum, whose scheme is num<'a> list -> num<'a>
abbrev sum_scheme : SchemeTree
sum_scheme = record { signature = record { params = list_type (num_type (atom (Var 0))) ∷ []; result = num_type (atom (Var 0)) }; vars = 1 }

abbrev call_of_sum : InputTrees → ShownJudgement
call_of_sum is = shown_judgement (judge 2 [] (sum_scheme ∷ []) 1 (call_function [] 0 sum (more_inputs (list_input is) no_inputs)))

abbrev one_of : ℕ → InputTree
one_of k = number_input one_number (Written (atom (Base k)))

-- sum [1<m>; 1<m>]
metres_summed : call_of_sum (more_inputs (one_of 0) (more_inputs (one_of 0) no_inputs)) ≡ scheme [] (num (term (Base 0) (pos 1) ∷ [])) 0
unfolding product
metres_summed = refl

-- sum [1<m>; 1<s>]
metres_and_seconds : call_of_sum (more_inputs (one_of 0) (more_inputs (one_of 1) no_inputs)) ≡ units 0 0
unfolding product
metres_and_seconds = refl

-- sum []: the unit stays open
nothing_summed : call_of_sum no_inputs ≡ scheme [] (num (own 0)) 1
unfolding product
nothing_summed = refl

-- ---- more on slots
-- let c (x: num<_>) (l: num<_> list) = x :: l: the head against the tail's item, and the type is the tail's
cons_equations :
    summary [] [] 0 (plain (num_note Hole ∷ list_note (num_note Hole) ∷ []) (cons 2 (local 1 0) (local 3 1))) ≡
    record { slots = 2; rows = (2, term (Var 0) (pos 1) ∷ term (Var 1) (negsuc 0) ∷ []) ∷ []; params = num (own 0) ∷ list (num (own 1)) ∷ []; result = list (num (own 1)) }
unfolding product
cons_equations = refl

-- { x = 0<_> }: the slot of the record's unit comes before that of its part's hole
record_before_parts :
    summary (marked ∷ []) [] 0 (plain [] (record_expr 1 0 (more (number 2 zero_number Hole) none))) ≡ record { slots = 2; rows = (1, term (Var 1) (negsuc 0) ∷ []) ∷ []; params = []; result = made 0 (own 0 ∷ []) }
unfolding product
record_before_parts = refl

-- ([] : num<'b^-1 'a> list): the named variables of one unit have their slots by their numbers
two_names :
    summary [] [] 0 (plain [] (nil 1 (list_note (num_note (Written (product (term (Var 0) (negsuc 0) ∷ term (Var 1) (pos 1) ∷ [])))))))
    ≡ record { slots = 2; rows = []; params = []; result = list (num (term (Var 0) (negsuc 0) ∷ term (Var 1) (pos 1) ∷ [])) }
unfolding product
two_names = refl

-- and the second of them has the first slot where it occurs before
second_name_first :
    summary [] [] 0 (plain (num_note (Written (atom (Var 1))) ∷ []) (nil 1 (list_note (num_note (Written (product (term (Var 0) (negsuc 0) ∷ term (Var 1) (pos 1) ∷ [])))))))
    ≡ record { slots = 2; rows = []; params = num (own 0) ∷ []; result = list (num (term (Var 0) (pos 1) ∷ term (Var 1) (negsuc 0) ∷ [])) }
unfolding product
second_name_first = refl

-- ---- the range of powers
-- let r (x: num<_>) (p: num<'u^2147483647>) (y: num<_>) = x < p && x * x < y: while the second row is added
abbrev past_while_added : FunctionTree
past_while_added =
    plain (num_note Hole ∷ num_note (Written (product (term (Var 0) (pos 2147483647) ∷ []))) ∷ num_note Hole ∷ [])
    (both 4 (compare 2 Lt (local 1 0) (local 3 1)) (compare 8 Lt (arith_tree 6 Mul (local 5 0) (local 7 0)) (local 9 2)))

added_past : shown_judgement (judge 2 [] [] 0 past_while_added) ≡ range 8
unfolding product
added_past = refl

-- let square (x: num<_>) = x * x, and let far (x: num<m^2147483647>) = square x: the solution put for the slots, at the name
abbrev square_scheme : SchemeTree
square_scheme = record { signature = record { params = num_type (atom (Var 0)) ∷ []; result = num_type (product (term (Var 0) (pos 2) ∷ [])) }; vars = 1 }

abbrev far : FunctionTree
far = record (plain (num_note (Written (product (term (Base 0) (pos 2147483647) ∷ []))) ∷ []) (call 8 0 (more (local 9 0) none))) { at = 7 }

applied_past : shown_judgement (judge 2 [] (square_scheme ∷ []) 1 far) ≡ range 7
unfolding product
applied_past = refl

-- let k (x: num<m^2147483647>) (y: num<m^-2147483647>) = x < y: a closed row past the range is no unsolvable row
closed_past :
    shown_judgement (judge 2 [] [] 0 (plain (num_note (Written (product (term (Base 0) (pos 2147483647) ∷ []))) ∷ num_note (Written (product (term (Base 0) (negsuc 2147483646) ∷ []))) ∷ []) (compare 2 Lt (local 1 0) (local 3 1)))) ≡ range 2
unfolding product
closed_past = refl

-- ---- whole powers
-- let power (x: num<_>) = pown x k
abbrev power : ℤ → FunctionTree
power k = plain (num_note Hole ∷ []) (pown 1 (local 2 0) k)

cube_equations : summary [] [] 0 (power (pos 3)) ≡ record { slots = 1; rows = []; params = num (own 0) ∷ []; result = num (term (Var 0) (pos 3) ∷ []) }
unfolding product
cube_equations = refl

inverse_square_equations : summary [] [] 0 (power (negsuc 1)) ≡ record { slots = 1; rows = []; params = num (own 0) ∷ []; result = num (term (Var 0) (negsuc 1) ∷ []) }
unfolding product
inverse_square_equations = refl

-- the power 0 has no unit
no_power_equations : summary [] [] 0 (power (pos 0)) ≡ record { slots = 1; rows = []; params = num (own 0) ∷ []; result = num [] }
unfolding product
no_power_equations = refl

-- num<'a> -> num<'a^3>
cube_judged : shown_judgement (judge 2 [] [] 0 (power (pos 3))) ≡ scheme (num (own 0) ∷ []) (num (term (Var 0) (pos 3) ∷ [])) 1
unfolding product
cube_judged = refl

-- let far (x: num<_>) = pown (pown x 2147483647) 2: the outer power is past the range, at its place
powers_past_judged : shown_judgement (judge 2 [] [] 0 (plain (num_note Hole ∷ []) (pown 1 (pown 2 (local 3 0) (pos 2147483647)) (pos 2)))) ≡ range 1
unfolding product
powers_past_judged = refl

-- let back (x: num<_>) = pown (pown x 2147483647) (-1): -2147483647 is in range
powers_kept_judged : shown_judgement (judge 2 [] [] 0 (plain (num_note Hole ∷ []) (pown 1 (pown 2 (local 3 0) (pos 2147483647)) (negsuc 0)))) ≡ scheme (num (own 0) ∷ []) (num (term (Var 0) (negsuc 2147483646) ∷ [])) 1
unfolding product
powers_kept_judged = refl

-- ---- unit parameters, behind two base units
-- a function with one
abbrev with_parameter : List NoteTree → ExprTree → FunctionTree
with_parameter notes e = record (plain notes e) { units = 1; named = 1 }

-- let h<'u> (x: num<_>) (y: num<'u>) = y < x: the parameter has the first slot
parameter_first :
    summary [] [] 0 (with_parameter (num_note Hole ∷ num_note (Written (atom (Var 0))) ∷ []) (compare 2 Lt (local 1 1) (local 3 0)))
    ≡ record { slots = 2; rows = (2, term (Var 0) (pos 1) ∷ term (Var 1) (negsuc 0) ∷ []) ∷ []; params = num (own 1) ∷ num (own 0) ∷ []; result = bool }
unfolding product
parameter_first = refl

-- let k<'u> (x: num<_>) = x: also where it doesn't occur
parameter_unused : summary [] [] 0 (with_parameter (num_note Hole ∷ []) (local 1 0)) ≡ record { slots = 2; rows = []; params = num (own 1) ∷ []; result = num (own 1) }
unfolding product
parameter_unused = refl

-- let g<'u> (x: num<'u>) (y: num<_>) = x + y: num<'a> -> num<'a> -> num<'a>
parameter_judged :
    shown_judgement (judge 2 [] [] 0 (with_parameter (num_note (Written (atom (Var 0))) ∷ num_note Hole ∷ []) (arith_tree 2 Add (local 1 0) (local 3 1)))) ≡ scheme (num (own 0) ∷ num (own 0) ∷ []) (num (own 0)) 1
unfolding product
parameter_judged = refl

-- let f<'u> (x: num<'u>) = x + 1<m>: metres would do, but the parameter is a unit of its own
parameter_fixed : shown_judgement (judge 2 [] [] 0 (with_parameter (num_note (Written (atom (Var 0))) ∷ []) (arith_tree 2 Add (local 1 0) (number 3 one_number (Written (atom (Base 0))))))) ≡ less_general 0 2
unfolding product
parameter_fixed = refl

-- let h<'u> (x: num<'u>) = x * x < 1<m^3>: no unit would do
parameter_untyped :
    shown_judgement (judge 2 [] [] 0 (with_parameter (num_note (Written (atom (Var 0))) ∷ []) (compare 4 Lt (arith_tree 2 Mul (local 1 0) (local 3 0)) (number 5 one_number (Written (product (term (Base 0) (pos 3) ∷ []))))))) ≡ units 0 4
unfolding product
parameter_untyped = refl

-- ---- the limit of slots
keep : (k n m : ℕ) → k < n → filter (λ j. not (same_key j (hole k))) (hole_keys n m) ≡ hole_keys n m
keep k n zero h = refl
keep k n (suc m) h =
    let other : eqb n k ≡ false = false_from_ne_true (eqb n k) (λ e. let same = eqb-true n k e in absurd (omega (arith, h, same))) in
    ap (λ b. cond (not b) (hole n ∷ filter (λ j. not (same_key j (hole k))) (hole_keys (suc n) m)) (filter (λ j. not (same_key j (hole k))) (hole_keys (suc n) m))) other ∙ ap (λ ks. hole n ∷ ks) (keep k (suc n) m (omega arith))

-- each hole has a slot of its own
order-holes : (n m : ℕ) → slot_order (hole_keys n m) ≡ hole_keys n m
order-holes n zero = refl
order-holes n (suc m) = ap (λ ks. hole n ∷ filter (λ j. not (same_key j (hole n))) ks) (order-holes (suc n) m) ∙ ap (λ ks. hole n ∷ ks) (keep n (suc n) m (omega arith))

length-holes : (n m : ℕ) → length (hole_keys n m) ≡ m
length-holes n zero = refl
length-holes n (suc m) = ap suc (length-holes (suc n) m)

-- function 0 has a scheme of n variables, and function 1 calls it
abbrev wide : ℕ → SchemeTree
wide n = record { signature = record { params = []; result = bool_type }; vars = n }

abbrev one_call : FunctionTree
one_call = plain [] (call 1 0 none)

call_slots : (n : ℕ) → slot_count [] (wide n ∷ []) 1 one_call ≡ n
unfolding product
call_slots n = ap (λ ks. length (slot_order ks)) (append-nil (hole_keys 0 n)) ∙ ap length (order-holes 0 n) ∙ length-holes 0 n

few_slots : (n : ℕ) → n ≤ 2000 → judge 2 [] (wide n ∷ []) 1 one_call ≡ has_scheme (wide 0)
unfolding product
few_slots n h = on_test (leb (slot_count [] (wide n ∷ []) 1 one_call) 2000)
    (λ e. ap (λ b. cond b (has_scheme (wide 0)) too_many_slots) e)
    (λ e. absurd (let count = call_slots n in let past : 2000 < slot_count [] (wide n ∷ []) 1 one_call = grind (arith, nat_tests) in omega (arith, count, past, h)))

many_slots : (n : ℕ) → 2000 < n → judge 2 [] (wide n ∷ []) 1 one_call ≡ too_many_slots
unfolding product
many_slots n h = on_test (leb (slot_count [] (wide n ∷ []) 1 one_call) 2000)
    (λ e. absurd (let count = call_slots n in let few : slot_count [] (wide n ∷ []) 1 one_call ≤ 2000 = grind (arith, nat_tests) in omega (arith, count, few, h)))
    (λ e. ap (λ b. cond b (has_scheme (wide 0)) too_many_slots) e)

-- 2,000 slots are few, and 2,001 are too many
at_the_limit : judge 2 [] (wide 2000 ∷ []) 1 one_call ≡ has_scheme (wide 0)
at_the_limit = few_slots 2000 (lit≤ tt)

past_the_limit : judge 2 [] (wide 2001 ∷ []) 1 one_call ≡ too_many_slots
past_the_limit = many_slots 2001 (lit< tt)

-- Small values, expressions and outcomes in other sizes: each is as expected, and a neighbour is refused.
use Rattle.std.proofs.Common.{◌≡◌, refl, sym, subst, zero, suc, true, false, [], ◌∷◌, pos, arith}
use Rattle.std.proofs.lemmas.Int.{ints}
use Rattle.um_frac.specs.declared.number.Frac.{Frac}
use Rattle.um_frac.specs.declared.number.Trap.TheVariants.{Overflow, DivZero}
use Rattle.um_units.specs.declared.Atom.TheVariants.{Base, Var}
use Rattle.um_units.specs.PowerMap.{product, one, atom, mul, inv}
use Rattle.um_units.proofs.Group.{power_of-atom}
use Rattle.um_units.proofs.Variables.{IsClosed-base}
use Rattle.um_tree.specs.declared.note.UnitNote.TheVariants.{Hole, Written}
use Rattle.um_tree.specs.declared.expression.Arith.TheVariants.{Add, Sub}
use Rattle.um_tree.specs.TypeTree.{bool_type, num_type, list_type, record_type}
use Rattle.um_tree.specs.ValueTree.{ValueTree, truth_value, number_value, list_value, record_value, no_values, more_values, value_outcome, trap_outcome, budget_outcome}
use Rattle.um_tree.specs.ExprTree.{number, arith as arith_tree}
use Rattle.um_tree.specs.ProgramTree.{RecordTree}
use Rattle.um_tree.proofs.ExamplePrograms.{whole, zero_number, one_number, metre, second}
use Rattle.um_scaling.specs.Rescaling.{Rescaling, factor, IsScaled}
use Rattle.um_scaling.specs.ScaledValues.{Scaled, OutcomesScaled}
use Rattle.um_scaling.specs.RescaledProgram.{RescaledExpr}
use Rattle.um_scaling.specs.FreeNumbers.{IsFreeZero}

-- metres become centimetres and seconds milliseconds; each other unit stays
abbrev sizes : Rescaling
sizes (Base zero) = record { top = 100; bottom = 1 }
sizes (Base (suc zero)) = record { top = 1000; bottom = 1 }
sizes (Base (suc (suc n))) = record { top = 1; bottom = 1 }
sizes (Var n) = record { top = 1; bottom = 1 }

abbrev three : Frac
three = whole 3 (omega arith)

abbrev three_hundred : Frac
three_hundred = whole 300 (omega arith)

-- ---- factors: a negative power swaps the pair, and each power counts
of_acceleration : factor sizes (mul metre (inv (mul second second))) ≡ record { top = 100; bottom = 1000000 }
unfolding product
of_acceleration = refl

of_none : factor sizes one ≡ record { top = 1; bottom = 1 }
unfolding product
of_none = refl

-- ---- numbers: 3 metres are 300 centimetres, and not the other way round
metres : IsScaled (factor sizes metre) three three_hundred
unfolding product
metres = refl

not_turned : IsScaled (factor sizes metre) three_hundred three → ⊥
unfolding product
not_turned h = let e : pos 3 ≡ pos 30000 = h in omega (arith, ints, e)

not_left : IsScaled (factor sizes metre) three three → ⊥
unfolding product
not_left h = let e : pos 3 ≡ pos 300 = h in omega (arith, ints, e)

-- ---- values: a list item by item, a record by the types of its fields
abbrev numbers : Frac → Frac → ValueTree
numbers c d = list_value (more_values (number_value c) (more_values (number_value d) no_values))

-- type P<[<Measure>] 'u> = { x: num<'u>; y: num }
abbrev pair : RecordTree
pair = record { name = []; at = 0; units = 1; fields = record { name = []; type = num_type (atom (Var 0)) } ∷ record { name = []; type = num_type one } ∷ [] }

abbrev pair_of : Frac → Frac → ValueTree
pair_of c d = record_value 0 (more_values (number_value c) (more_values (number_value d) no_values))

list_scaled : Scaled [] sizes (numbers three one_number) (list_type (num_type one)) (numbers three one_number)
unfolding product
list_scaled = (refl, (refl, tt))

list_shorter : Scaled [] sizes (numbers three one_number) (list_type (num_type one)) (list_value (more_values (number_value three) no_values)) → ⊥
list_shorter h = h.1

record_scaled : Scaled (pair ∷ []) sizes (pair_of three three) (record_type 0 (metre ∷ [])) (pair_of three_hundred three)
unfolding product
record_scaled = (pair, record { declared = refl; units = refl }, refl, refl, (refl, (refl, tt)))

truth_turned : Scaled [] sizes (truth_value true) bool_type (truth_value false) → ⊥
truth_turned h = absurd cc

-- ---- outcomes
both_end : OutcomesScaled [] sizes budget_outcome bool_type budget_outcome
both_end = tt

one_ends : OutcomesScaled [] sizes budget_outcome bool_type (trap_outcome DivZero) → ⊥
one_ends h = h

one_divides : OutcomesScaled [] sizes (trap_outcome DivZero) bool_type (value_outcome (truth_value true)) → ⊥
one_divides h = h

one_overflows : OutcomesScaled [] sizes (value_outcome (truth_value true)) bool_type (trap_outcome Overflow)
one_overflows = tt

values_scaled : OutcomesScaled [] sizes (value_outcome (number_value three)) (num_type metre) (value_outcome (number_value three_hundred))
unfolding product
values_scaled = refl

-- ---- expressions: 3<m> + 3 becomes 300<m> + 3, and a zero with a hole stays
literals : RescaledExpr sizes (arith_tree 4 Add (number 0 three (Written metre)) (number 9 three (Written one))) (arith_tree 4 Add (number 0 three_hundred (Written metre)) (number 9 three (Written one)))
unfolding product
literals = (number 0 three_hundred (Written metre), number 9 three (Written one), (three_hundred, refl, refl), (three, refl, refl), refl)

hole_stays : RescaledExpr sizes (number 0 zero_number Hole) (number 0 zero_number Hole)
hole_stays = (zero_number, refl, refl)

literal_left : RescaledExpr sizes (number 0 three (Written metre)) (number 0 three (Written metre)) → ⊥
unfolding product
literal_left h =
    let same : three ≡ h.0 = cc h.2 in
    not_left (subst (λ (d : Frac). IsScaled (factor sizes metre) three d) (sym same) h.1)

other_operation : RescaledExpr sizes (arith_tree 4 Add (number 0 zero_number Hole) (number 9 zero_number Hole)) (arith_tree 4 Sub (number 0 zero_number Hole) (number 9 zero_number Hole)) → ⊥
other_operation h = let e : arith_tree 4 Sub (number 0 zero_number Hole) (number 9 zero_number Hole) ≡ arith_tree 4 Add h.0 h.1 = h.4 in absurd cc

-- ---- numbers at open units
closed_number : IsFreeZero [] (number_value one_number) (num_type metre)
closed_number = λ is_open. absurd (is_open (IsClosed-base 0))

open_zero : IsFreeZero [] (number_value zero_number) (num_type (atom (Var 0)))
open_zero = λ is_open. refl

open_number : IsFreeZero [] (number_value one_number) (num_type (atom (Var 0))) → ⊥
open_number h = let e = h (λ closed. let held = closed 0 in let is = power_of-atom (Var 0) in omega (arith, ints, held, is)) in omega (arith, ints, e)

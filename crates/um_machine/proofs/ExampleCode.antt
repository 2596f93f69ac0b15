-- Small codes, and what a step or a run comes to, as it can be compared by computation.
use Rattle.std.proofs.Common.{ℕ, List, [], ◌∷◌, map}
use Rattle.um_frac.specs.declared.number.Trap.{Trap}
use Rattle.um_tree.specs.ValueTree.{ValueTree, list_value, no_values, value_outcome, trap_outcome, budget_outcome}
use Rattle.um_tree.proofs.ExamplePrograms.{zero_number}
use Rattle.um_tree.proofs.ExampleShown.{Plain, plain_value}
use Rattle.um_machine.specs.declared.op.Op.{Op}
use Rattle.um_machine.specs.declared.op.Op.TheVariants.{PushNum, Load, Add, Mul, Jump, Split, Slide, Call, Ret}
use Rattle.um_machine.specs.declared.code.Code.{Code}
use Rattle.um_machine.specs.Machine.{Step, going, done, stuck}

-- a state by its address and its stack, or how a run ends
pub data Seen : Type 0 where
  goes_on : ℕ → List Plain → Seen
  ends_with : Plain → Seen
  ends_in : Trap → Seen
  ends_spent : Seen
  is_stuck : Seen

abbrev pub seen : Step → Seen
seen (going s) = goes_on s.at (map plain_value s.stack)
seen (done (value_outcome v)) = ends_with (plain_value v)
seen (done (trap_outcome t)) = ends_in t
seen (done budget_outcome) = ends_spent
seen stuck = is_stuck

-- the code of one function
abbrev pub one_function : List Op → ℕ → ℕ → Code
one_function ops end params = record { ops = ops; entries = record { start = 0; end = end; params = params } ∷ [] }

-- let rec sum (l: num<_> list) : num<_> = match l with [] -> 0<_> | x :: r -> x + sum r
abbrev pub sum_code : Code
sum_code = one_function (Load 0 ∷ Split 8 ∷ Load 1 ∷ Load 2 ∷ Call 0 ∷ Add ∷ Slide 2 ∷ Jump 9 ∷ PushNum zero_number ∷ Ret ∷ []) 10 1

-- let area (x: num<_>) (y: num<_>) = x * y
abbrev pub area_code : Code
area_code = one_function (Load 0 ∷ Load 1 ∷ Mul ∷ Ret ∷ []) 4 2

abbrev pub empty_list : ValueTree
empty_list = list_value no_values

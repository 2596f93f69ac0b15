-- What a meaning gives, as it can be compared by computation.
use Rattle.std.proofs.Common.{ℕ, ◌≤◌, Bool, List, [], ◌∷◌, ℤ, pos}
use Rattle.um_frac.specs.declared.number.Trap.{Trap}
use Rattle.um_frac.specs.Fraction.{numerator, denominator}
use Rattle.um_tree.specs.ValueTree.{ValueTree, ValueTrees, truth_value, number_value, list_value, record_value, no_values, more_values}
use Rattle.um_tree.specs.Meaning.{Out, gives, stops, trap, budget_end, wrong}
use Rattle.um_tree.proofs.ExamplePrograms.{whole}

-- a value, of whose numbers the parts are read
mutual
  pub data Plain : Type 0 where
    plain_truth : Bool → Plain
    fraction_of : ℤ → ℤ → Plain
    plain_list : Plains → Plain
    plain_record : ℕ → Plains → Plain

  pub data Plains : Type 0 where
    no_plains : Plains
    more_plains : Plain → Plains → Plains

abbrev mutual
  pub plain_value : ValueTree → Plain
  plain_value (truth_value b) = plain_truth b
  plain_value (number_value c) = fraction_of (numerator c) (denominator c)
  plain_value (list_value vs) = plain_list (plain_values vs)
  plain_value (record_value r vs) = plain_record r (plain_values vs)

  pub plain_values : ValueTrees → Plains
  plain_values no_values = no_plains
  plain_values (more_values v vs) = more_plains (plain_value v) (plain_values vs)

-- a value with the rest of the budget, a trap, the end of the budget, or nothing that is claimed
pub data Shown : Type 0 where
  value_shown : Plain → ℕ → Shown
  trap_shown : Trap → Shown
  end_shown : Shown
  wrong_shown : Shown

abbrev pub shown : Out ValueTree → Shown
shown (gives v b) = value_shown (plain_value v) b
shown (stops (trap t)) = trap_shown t
shown (stops budget_end) = end_shown
shown (stops wrong) = wrong_shown

abbrev pub number_shown : ℤ → ℤ → ℕ → Shown
number_shown n d b = value_shown (fraction_of n d) b

abbrev pub number_of : (n : ℕ) → n ≤ 1000000 → ValueTree
number_of n low = number_value (whole n low)

abbrev pub whole_number : ℕ → Plain
whole_number n = fraction_of (pos n) (pos 1)

abbrev pub in_plain_order : List Plain → Plains
in_plain_order [] = no_plains
in_plain_order (p ∷ ps) = more_plains p (in_plain_order ps)

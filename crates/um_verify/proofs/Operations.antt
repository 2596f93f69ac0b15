-- What operations give at values of the shapes that they ask for.
use Rattle.std.proofs.Common.{◌≡◌, subst, ℕ, zero, suc, List, [], ◌∷◌, Some, Result, Ok, Err, slice_get, ℤ}
use Rattle.um_frac.specs.declared.number.Frac.{Frac}
use Rattle.um_frac.specs.declared.number.Trap.{Trap}
use Rattle.um_frac.specs.Arithmetic.{whole_power_of}
use Rattle.um_tree.specs.declared.expression.Arith.{Arith}
use Rattle.um_tree.specs.declared.expression.Sign.{Sign}
use Rattle.um_tree.specs.ValueTree.{ValueTree, ValueTrees, truth_value, number_value, list_value, no_values, more_values}
use Rattle.um_tree.specs.Meaning.{Stop, trap, budget_end, wrong, number_result, arithmetic, calculated, compared, negated, raised, not_of, longer, value_at}
use Rattle.um_verify.specs.StackShape.{StackShape, bool, num, list}
use Rattle.um_verify.proofs.Fits.{HasIt, FieldsHave}

module _ (fields : List (List StackShape)) where
  -- it isn't wrong, and a value has the shape
  abbrev pub Gives : StackShape → Result ValueTree Stop → Type 0
  Gives s (Ok v) = HasIt fields v s
  Gives s (Err (trap t)) = Unit {0}
  Gives s (Err budget_end) = Unit {0}
  Gives s (Err wrong) = ⊥

  number_gives : (r : Result Frac Trap) → Gives num (number_result r)
  number_gives (Ok c) = tt
  number_gives (Err t) = tt

  pub calculated_gives : (op : Arith) (v w : ValueTree) → HasIt fields v num → HasIt fields w num → Gives num (calculated op v w)
  calculated_gives op (number_value a) (number_value b) h k = number_gives (arithmetic op a b)
  calculated_gives op (number_value a) w h k = absurd k
  calculated_gives op v w h k = absurd h

  pub compared_gives : (sign : Sign) (v w : ValueTree) → HasIt fields v num → HasIt fields w num → Gives bool (compared sign v w)
  compared_gives sign (number_value a) (number_value b) h k = tt
  compared_gives sign (number_value a) w h k = absurd k
  compared_gives sign v w h k = absurd h

  pub negated_gives : (v : ValueTree) → HasIt fields v num → Gives num (negated v)
  negated_gives (number_value a) h = tt
  negated_gives v h = absurd h

  pub raised_gives : (k : ℤ) (v : ValueTree) → HasIt fields v num → Gives num (raised k v)
  raised_gives k (number_value a) h = number_gives (whole_power_of a k)
  raised_gives k v h = absurd h

  pub not_gives : (v : ValueTree) → HasIt fields v bool → Gives bool (not_of v)
  not_gives (truth_value b) h = tt
  not_gives v h = absurd h

  pub longer_gives : (v w : ValueTree) (s : StackShape) → HasIt fields v s → HasIt fields w (list s) → Gives (list s) (longer v w)
  longer_gives v (list_value vs) s h k = (h, k)
  longer_gives v w s h k = absurd k

  pub part_gives : (vs : ValueTrees) (ss : List StackShape) (k : ℕ) (s : StackShape) → FieldsHave fields vs ss → slice_get ss k ≡ Some s → Gives s (value_at vs k)
  part_gives no_values [] zero s h e = absurd cc
  part_gives no_values [] (suc k) s h e = absurd cc
  part_gives (more_values v vs) (t ∷ ss) zero s h e = let same : t ≡ s = cc in subst (HasIt fields v) same h.0
  part_gives (more_values v vs) (t ∷ ss) (suc k) s h e = part_gives vs ss k s h.1 e
  part_gives no_values (t ∷ ss) k s h e = absurd h
  part_gives (more_values v vs) [] k s h e = absurd h

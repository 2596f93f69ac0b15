-- The words of `calls`, and those of `run` with the words of a line.
use Rattle.std.proofs.Common.{◌≡◌, ℕ, true, false, ◌&&◌, List, ◌∷◌, [], codes, Some, None, refl, sym, ap, ◌∙◌}
use Rattle.std.specs.Prelude.{Option}
use Rattle.std.specs.List.{list_all}
use Rattle.um_orders.specs.declared.order.Order.{Order}
use Rattle.um_orders.specs.declared.order.Order.TheVariants.{Run, Calls}
use Rattle.um_orders.specs.Orders.{is_short, budget_of, calls_order, call_order, order_by_count, order_of}
use Rattle.um_orders.proofs.OrderWords.{both, named_by_count, by_count, none_of_long}

-- what `calls` has beside its name
pub record IsBudget (word : List ℕ) (budget : ℕ) : Type 0 where
  pub short : is_short word ≡ true
  pub stated : budget_of word ≡ Some budget

pub calls_named : (word : List ℕ) (o : Order) → order_of (codes "calls" ∷ word ∷ []) ≡ Some o → (budget : ℕ) × IsBudget word budget × (o ≡ Calls budget)
calls_named word o e =
    let named = named_by_count (codes "calls" ∷ word ∷ []) o e in
    by (both (is_short word) true named.0).0 (budget_of word) refl named.1
  where
    by : is_short word ≡ true → (limit : Option ℕ) → budget_of word ≡ limit → calls_order limit ≡ Some o → (budget : ℕ) × IsBudget word budget × (o ≡ Calls budget)
    by short None is named = absurd (cc named)
    by short (Some budget) is named = let same : Calls budget ≡ o = cc named in (budget, record { short = short; stated = is }, sym same)

module _ (word : List ℕ) (budget : ℕ) (is : IsBudget word budget) where
  run_by_count : (name : List ℕ) (more : List (List ℕ)) → order_by_count (codes "run" ∷ word ∷ name ∷ more) ≡ Some (Run budget)
  run_by_count name [] = ap (call_order (codes "run")) is.stated
  run_by_count name (text ∷ []) = ap (call_order (codes "run")) is.stated
  run_by_count name (text ∷ another ∷ more) = ap (call_order (codes "run")) is.stated

  -- with words that are short enough, of which there is one at least
  pub run_named : (name : List ℕ) (more : List (List ℕ)) → list_all is_short (name ∷ more) ≡ true → order_of (codes "run" ∷ word ∷ name ∷ more) ≡ Some (Run budget)
  run_named name more short = by_count (codes "run" ∷ word ∷ name ∷ more) ((λ i. is.short i && short i)) ∙ run_by_count name more

  -- with others
  pub run_unnamed : (words : List (List ℕ)) → list_all is_short words ≡ false → order_of (codes "run" ∷ word ∷ words) ≡ None
  run_unnamed words long = none_of_long (codes "run" ∷ word ∷ words) (λ i. is.short i && long i)

-- The variables of a numbered scheme are its own.
use Rattle.std.proofs.Common.{ℕ, suc, ◌<◌, ◌≤◌, List, [], ◌∷◌, inl, inr, arith}
use Rattle.std.specs.Prelude.{All}
use Rattle.std.proofs.lemmas.List.Elements.{All-nil, All-cons}
use Rattle.um_tree.specs.Scheme.{variables, signature_types, FirstComeInOrder}
use Rattle.um_tree.specs.Laws.{NumberedSchemesAreOverTheirVariables}

not_after : (k n : ℕ) (xs : List ℕ) → FirstComeInOrder k xs n → k ≤ n
not_after k n [] e = omega (arith, e)
not_after k n (x ∷ xs) h = elim h [ inl p ↦ not_after k n xs p.1 | inr p ↦ let l = not_after (suc k) n xs p.1 in omega (arith, l) ]

pub in_order_below : (k n : ℕ) (xs : List ℕ) → FirstComeInOrder k xs n → All (λ x. x < n) xs
in_order_below k n [] e = All-nil (λ x. x < n)
in_order_below k n (x ∷ xs) h = elim h [
  | inl p ↦ All-cons (λ x. x < n) x xs (let l = not_after k n xs p.1 in let i = p.0 in omega (arith, l, i)) (in_order_below k n xs p.1)
  | inr p ↦ All-cons (λ x. x < n) x xs (let l = not_after (suc k) n xs p.1 in let i = p.0 in omega (arith, l, i)) (in_order_below (suc k) n xs p.1)
]

pub numbered_below : NumberedSchemesAreOverTheirVariables
numbered_below s numbered = in_order_below 0 s.vars (variables (signature_types s.signature)) numbered

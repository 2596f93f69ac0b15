-- The last variable of a name in a scope.
use Rattle.std.proofs.Common.{◌≡◌, ℕ, zero, suc, ◌+◌, ◌<◌, Bool, true, false, List, [], ◌∷◌, drop, get_or, length, ◌-◌, ◌≤◌, refl, ap, sym, ◌∙◌, arith, add-one}
use Rattle.std.specs.Prelude.{Option, Some, None}
use Rattle.um_measures.specs.Scopes.{Scope, is_bound, last_of, local_of}

local_at-suc : (names : Scope) (x : List ℕ) (i : ℕ) (y : Option (List ℕ)) → i < length names → y ≡ get_or names i y → is_bound y x ≡ true → local_of (drop (suc i) names) x ≡ None → local_of names x ≡ Some i
local_at-suc [] x i y h e b n = absurd (omega arith)
local_at-suc (z ∷ zs) x zero y h e b n = ap (λ o. last_of o (is_bound z x)) n ∙ ap (last_of None) (ap (λ w. is_bound w x) (sym e) ∙ b)
local_at-suc (z ∷ zs) x (suc i) y h e b n = ap (λ o. last_of o (is_bound z x)) (local_at-suc zs x i y (omega arith) e b n)

-- the variable behind which there is none of its name
pub local_at : (names : Scope) (x : List ℕ) (i : ℕ) (y : Option (List ℕ)) → i < length names → y ≡ get_or names i y → is_bound y x ≡ true → local_of (drop (i + 1) names) x ≡ None → local_of names x ≡ Some i
local_at names x i y h e b n = local_at-suc names x i y h e b (rw (← add-one) n)

local_none-suc : (names : Scope) (x : List ℕ) (i : ℕ) (y : Option (List ℕ)) → i < length names → y ≡ get_or names i y → is_bound y x ≡ false → local_of (drop (suc i) names) x ≡ None → local_of (drop i names) x ≡ None
local_none-suc [] x i y h e b n = absurd (omega arith)
local_none-suc (z ∷ zs) x zero y h e b n = ap (λ o. last_of o (is_bound z x)) n ∙ ap (last_of None) (ap (λ w. is_bound w x) (sym e) ∙ b)
local_none-suc (z ∷ zs) x (suc i) y h e b n = local_none-suc zs x i y (omega arith) e b n

pub local_none : (names : Scope) (x : List ℕ) (i : ℕ) (y : Option (List ℕ)) → i < length names → y ≡ get_or names i y → is_bound y x ≡ false → local_of (drop (i + 1) names) x ≡ None → local_of (drop i names) x ≡ None
local_none names x i y h e b n = local_none-suc names x i y h e b (rw (← add-one) n)

pub local_below : (names : Scope) (x : List ℕ) (k : ℕ) → local_of names x ≡ Some k → k < length names
local_below [] x k e = absurd cc
local_below (z ∷ zs) x k e = by (local_of zs x) (is_bound z x) (local_below zs x) e where
  by : (o : Option ℕ) (b : Bool) → ((j : ℕ) → o ≡ Some j → j < length zs) → last_of o b ≡ Some k → k < suc (length zs)
  by (Some j) b h e = let z : suc j ≡ k = cc e in omega (arith, h j refl)
  by None true h e = let z : 0 ≡ k = cc e in omega arith
  by None false h e = absurd cc

-- one step down
pub local_none_down : (names : Scope) (x : List ℕ) (k : ℕ) (y : Option (List ℕ)) → 0 < k → k ≤ length names → y ≡ get_or names (k - 1) y → is_bound y x ≡ false → local_of (drop k names) x ≡ None → local_of (drop (k - 1) names) x ≡ None
local_none_down names x k y h l e b n = local_none names x (k - 1) y (omega arith) e b (ap (λ (j : ℕ). local_of (drop j names) x) (omega arith) ∙ n)

pub local_at_down : (names : Scope) (x : List ℕ) (k : ℕ) (y : Option (List ℕ)) → 0 < k → k ≤ length names → y ≡ get_or names (k - 1) y → is_bound y x ≡ true → local_of (drop k names) x ≡ None → local_of names x ≡ Some (k - 1)
local_at_down names x k y h l e b n = local_at names x (k - 1) y (omega arith) e b (ap (λ (j : ℕ). local_of (drop j names) x) (omega arith) ∙ n)

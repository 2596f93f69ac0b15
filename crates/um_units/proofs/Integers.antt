-- Whether an integer is 0; the quotient that is rounded down, and the remainder that it leaves.
use Rattle.std.proofs.Common.{◌≡◌, ◌≢◌, ◌⊎◌, inl, inr, ℕ, zero, suc, ◌-◌, ◌*◌, ◌%◌, ◌<◌, ◌≤◌, ℤ, pos, negsuc, ◌+ℤ◌, ◌*ℤ◌, neg_ℤ, ap, arith, refl}
use Rattle.std.proofs.lemmas.Int.{ints}
use Rattle.std.proofs.Math.IntN.{*ℤ_comm}
use Rattle.std.specs.Int.{int_div_euclid, int_rem_euclid}
use native.Mathlib.Nat.{zero-div}
use Rattle.um_frac.proofs.Integers.{*ℤ-neg_ℤ}

pub zero_cases : (z : ℤ) → (z ≡ pos 0) ⊎ (z ≢ pos 0)
zero_cases (pos zero) = inl refl
zero_cases (pos (suc n)) = inr (λ e. omega (arith, ints, e))
zero_cases (negsuc n) = inr (λ e. omega (arith, ints, e))

-- ---- the quotient rounded down, and what it leaves
pub div-rem_euclid : (a : ℤ) (p : ℕ) → 0 < p → int_div_euclid a (pos p) *ℤ pos p +ℤ int_rem_euclid a (pos p) ≡ a
div-rem_euclid (pos a) p h = omega (arith, ints)
div-rem_euclid (negsuc a) p h = omega (arith, ints)

pub rem_euclid-below : (a : ℤ) (p : ℕ) → 0 < p → (c : ℕ) × (int_rem_euclid a (pos p) ≡ pos c) × (c < p)
rem_euclid-below (pos a) p h = (a % p, refl, omega (arith, h))
rem_euclid-below (negsuc a) p h = (p - 1 - a % p, refl, omega (arith, h))

pub div_euclid-zero : (p : ℕ) → int_div_euclid (pos 0) (pos p) ≡ pos 0
div_euclid-zero p = ap pos (zero-div p)

-- what is left of a after p times its quotient
pub less_floor_is : (a : ℤ) (p : ℕ) → 0 < p → a +ℤ pos p *ℤ neg_ℤ (int_div_euclid a (pos p)) ≡ int_rem_euclid a (pos p)
less_floor_is a p h = taken a (int_div_euclid a (pos p)) (int_rem_euclid a (pos p)) p (div-rem_euclid a p h)
  where
    taken : (a q r : ℤ) (p : ℕ) → q *ℤ pos p +ℤ r ≡ a → a +ℤ pos p *ℤ neg_ℤ q ≡ r
    taken a q r p e = omega (arith, ints, e, *ℤ-neg_ℤ (pos p) q, *ℤ_comm (pos p) q)

-- a number between 0 and p is no multiple of p
pub no_multiple : (p c : ℕ) (z : ℤ) → 0 < c → c < p → pos p *ℤ z +ℤ pos c ≡ pos 0 → ⊥
no_multiple p c (pos k) h l e = omega (arith, ints, e)
no_multiple p c (negsuc k) h l e = omega (arith, ints, e, once p k)
  where
    once : (p k : ℕ) → p ≤ p * suc k
    once p k = omega arith

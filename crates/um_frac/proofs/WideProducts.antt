-- Sizes of sums of integers, and products of two numbers of 64 bits, which the code forms at 128 bits.
use Rattle.std.proofs.Common.{◌≡◌, ◌⊎◌, ℕ, suc, ◌+◌, ◌-◌, ◌*◌, ◌≤◌, true, false, ℤ, pos, negsuc, ◌+ℤ◌, ◌*ℤ◌, unsigned_abs, FitsSigned, to_z, of_z, w64, refl, ap, ◌∙◌, inl, inr, arith}
use Rattle.std.specs.Prelude.{nat_lt, cond}
use Rattle.std.specs.Int.{w128}
use Rattle.std.proofs.lemmas.Bool.{cases_lt}
use Rattle.std.proofs.lemmas.Int.{fits_signed_from_abs, unsigned_abs-mul, to_z-of_z, to_z_pos}
use Rattle.std.proofs.lemmas.Nat.{mul-le}
use lib.IntN.{sub_ℕ}
use borrow.Author.Tests.{ltb-true, ltb-false}
use Rattle.um_frac.specs.Range.{greatest}

-- ---- the size of a sum
sub_abs : (a b : ℕ) → unsigned_abs (sub_ℕ a b) ≡ (a - b) + (b - a)
sub_abs a b =
    elim (nat_lt a b) as (λ t. nat_lt a b ≡ t → unsigned_abs (cond t (negsuc (b - suc a)) (pos (a - b))) ≡ (a - b) + (b - a)) [
      | true ↦ λ e. let below = ltb-true a b e in omega arith
      | false ↦ λ e. let above = ltb-false a b e in omega arith
    ] refl

-- one size is the sum or the difference of the other two
abbrev pub IsThird : ℕ → ℕ → ℕ → Type 0
IsThird a b c = (a ≡ b + c) ⊎ ((a ≡ b - c) ⊎ (a ≡ c - b))

third : (a b c : ℕ) → c ≡ (a - b) + (b - a) → IsThird a c b
third a b c e =
    elim (cases_lt a b) [
      | inl below ↦ inr (inr (omega arith))
      | inr above ↦ inl (omega arith)
    ]

pub sizes : (x y : ℤ) → IsThird (unsigned_abs x) (unsigned_abs (x +ℤ y)) (unsigned_abs y)
sizes (pos a) (pos b) = inr (inl (omega arith))
sizes (pos a) (negsuc b) = third a (suc b) (unsigned_abs (sub_ℕ a (suc b))) (sub_abs a (suc b))
sizes (negsuc a) (pos b) = third (suc a) b (unsigned_abs (sub_ℕ b (suc a))) (sub_abs b (suc a) ∙ omega arith)
sizes (negsuc a) (negsuc b) = inr (inl (omega arith))

abs_sum : (x y : ℤ) → unsigned_abs (x +ℤ y) ≤ unsigned_abs x + unsigned_abs y
abs_sum (pos a) (pos b) = omega arith
abs_sum (pos a) (negsuc b) = omega (arith, sub_abs a (suc b))
abs_sum (negsuc a) (pos b) = omega (arith, sub_abs b (suc a))
abs_sum (negsuc a) (negsuc b) = omega arith

-- ---- products of 64 bits at 128 bits
small_abs : (a : ℤ) → FitsSigned w64 a → unsigned_abs a ≤ 9223372036854775808
small_abs (pos n) fits = let low = fits.sfits in omega arith
small_abs (negsuc n) fits = let low = fits.sfits in omega arith

wide_fits : (a : ℤ) → FitsSigned w64 a → FitsSigned w128 a
wide_fits a fits = let small = small_abs a fits in fits_signed_from_abs w128 a (omega arith)

wide_product : (a : ℤ) (m : ℕ) → FitsSigned w64 a → m ≤ greatest → unsigned_abs (a *ℤ pos m) ≤ 9223372036854775808 * 9223372036854775807
wide_product a m fits small = rw (unsigned_abs-mul a (pos m)) (mul-le (unsigned_abs a) m 9223372036854775808 9223372036854775807 (small_abs a fits) small)

-- a product of an i64 and a u64 that was an i64, as the code has it
product_read : (a : ℤ) (m : ℕ) → FitsSigned w64 a → m ≤ greatest → to_z w128 (of_z w128 (to_z w128 (of_z w128 (to_z w64 (of_z w64 a))) *ℤ to_z w128 m)) ≡ a *ℤ pos m
product_read a m fits small =
    let wide : unsigned_abs (a *ℤ pos m) ≤ 9223372036854775808 * 9223372036854775807 = wide_product a m fits small in
    let m_is : to_z w128 m ≡ pos m = to_z_pos w128 m (omega arith) in
    ap (λ x. to_z w128 (of_z w128 (to_z w128 (of_z w128 x) *ℤ to_z w128 m))) (to_z-of_z w64 a fits) ∙ (λ i. to_z w128 (of_z w128 (to_z-of_z w128 a (wide_fits a fits) i *ℤ m_is i))) ∙ to_z-of_z w128 (a *ℤ pos m) (fits_signed_from_abs w128 (a *ℤ pos m) (omega arith))

-- the sum of two such products fits
pub sum_fits : (a b : ℤ) (m n : ℕ) → FitsSigned w64 a → FitsSigned w64 b → m ≤ greatest → n ≤ greatest → FitsSigned w128 (a *ℤ pos m +ℤ b *ℤ pos n)
sum_fits a b m n fa fb fm fn =
    let first = wide_product a m fa fm in
    let second = wide_product b n fb fn in
    let both = abs_sum (a *ℤ pos m) (b *ℤ pos n) in
    fits_signed_from_abs w128 (a *ℤ pos m +ℤ b *ℤ pos n) (omega arith)

pub sum_read : (a b : ℤ) (m n : ℕ) → FitsSigned w64 a → FitsSigned w64 b → m ≤ greatest → n ≤ greatest →
    to_z w128 (of_z w128 (to_z w128 (of_z w128 (to_z w64 (of_z w64 a))) *ℤ to_z w128 m)) +ℤ to_z w128 (of_z w128 (to_z w128 (of_z w128 (to_z w64 (of_z w64 b))) *ℤ to_z w128 n)) ≡ a *ℤ pos m +ℤ b *ℤ pos n
sum_read a b m n fa fb fm fn = λ i. product_read a m fa fm i +ℤ product_read b n fb fn i

-- a product of two numbers of 64 bits, as the code has it
pub read_product : (a b : ℤ) → FitsSigned w64 a → FitsSigned w64 b → to_z w128 (of_z w128 (to_z w128 (of_z w128 (to_z w64 (of_z w64 a))) *ℤ to_z w128 (of_z w128 (to_z w64 (of_z w64 b))))) ≡ a *ℤ b
read_product a b fa fb =
    let size : unsigned_abs (a *ℤ b) ≤ 9223372036854775808 * 9223372036854775808 = rw (unsigned_abs-mul a b) (mul-le (unsigned_abs a) (unsigned_abs b) 9223372036854775808 9223372036854775808 (small_abs a fa) (small_abs b fb)) in
    (λ i. to_z w128 (of_z w128 (to_z w128 (of_z w128 (to_z-of_z w64 a fa i)) *ℤ to_z w128 (of_z w128 (to_z-of_z w64 b fb i)))))
    ∙ (λ i. to_z w128 (of_z w128 (to_z-of_z w128 a (wide_fits a fa) i *ℤ to_z-of_z w128 b (wide_fits b fb) i)))
    ∙ to_z-of_z w128 (a *ℤ b) (fits_signed_from_abs w128 (a *ℤ b) (omega arith))

-- The four operations, whole powers, the negation and the order of fractions: the rational numbers' own, over integers
-- without bound. A result is the exact one in lowest terms, or Overflow if that is out of the range, or DivZero for a
-- quotient by 0 and for a negative power of 0. Sum, product and quotient by cross products: Knuth, Seminumerical
-- Algorithms, 4.5.1. The two traps are this project's own.
use Rattle.std.specs.Prelude.{◌≡◌, ◌≢◌, Bool, zero, suc, ℤ, pos, negsuc, neg_ℤ, ◌+ℤ◌, ◌-ℤ◌, ◌*ℤ◌, int_lt, Result, Err}
use Rattle.std.specs.Int.{int_pow}
use Rattle.std.specs.Option.{ok_or, unwrap_or}
use Rattle.std.specs.Ordering.{int_eq}
use Rattle.um_frac.specs.declared.number.Frac.{Frac}
use Rattle.um_frac.specs.declared.number.Trap.{Trap}
use Rattle.um_frac.specs.declared.number.Trap.TheVariants.{Overflow, DivZero}
use Rattle.um_frac.specs.Fraction.{numerator, denominator, fraction, reduced}

-- ---- what an operation answers

-- the number n / d, for a d that is not 0
abbrev pub exactly : ℤ → ℤ → Result Frac Trap
exactly n d = ok_or (reduced n d) Overflow

unfoldable pub sum_of : Frac → Frac → Result Frac Trap
sum_of a b =
    exactly (numerator a *ℤ denominator b +ℤ numerator b *ℤ denominator a) (denominator a *ℤ denominator b)

unfoldable pub difference_of : Frac → Frac → Result Frac Trap
difference_of a b =
    exactly (numerator a *ℤ denominator b -ℤ numerator b *ℤ denominator a) (denominator a *ℤ denominator b)

unfoldable pub product_of : Frac → Frac → Result Frac Trap
product_of a b = exactly (numerator a *ℤ numerator b) (denominator a *ℤ denominator b)

-- the number n / d, for any d
abbrev pub divided_by : ℤ → ℤ → Result Frac Trap
divided_by n (pos zero) = Err DivZero
divided_by n (pos (suc d)) = exactly n (pos (suc d))
divided_by n (negsuc d) = exactly n (negsuc d)

unfoldable pub quotient_of : Frac → Frac → Result Frac Trap
quotient_of a b = divided_by (numerator a *ℤ denominator b) (denominator a *ℤ numerator b)

-- The number to the power k. The power 0 of every number is 1, that of 0 too. A negative power is 1 over the positive
-- one, so it is a quotient by 0 at the number 0.
unfoldable pub whole_power_of : Frac → ℤ → Result Frac Trap
whole_power_of a (pos n) = exactly (int_pow (numerator a) n) (int_pow (denominator a) n)
whole_power_of a (negsuc n) = divided_by (int_pow (denominator a) (suc n)) (int_pow (numerator a) (suc n))

-- the number with the other sign; it is always in the range, so there is such a fraction
unfoldable pub negation_of : Frac → Frac
negation_of a = unwrap_or (fraction (neg_ℤ (numerator a)) (denominator a)) a

-- ---- the order, and equality, by cross products
abbrev pub is_less : Frac → Frac → Bool
is_less a b = int_lt (numerator a *ℤ denominator b) (numerator b *ℤ denominator a)

abbrev pub is_same : Frac → Frac → Bool
is_same a b = int_eq (numerator a *ℤ denominator b) (numerator b *ℤ denominator a)

-- ---- the same as relations: r is the sum, the difference, the product, the quotient of a and b, a power of a, the
-- negation of a
abbrev pub IsSum : Frac → Frac → Frac → Type 0
IsSum r a b =
    numerator r *ℤ (denominator a *ℤ denominator b)
    ≡ (numerator a *ℤ denominator b +ℤ numerator b *ℤ denominator a) *ℤ denominator r

abbrev pub IsDifference : Frac → Frac → Frac → Type 0
IsDifference r a b =
    numerator r *ℤ (denominator a *ℤ denominator b)
    ≡ (numerator a *ℤ denominator b -ℤ numerator b *ℤ denominator a) *ℤ denominator r

abbrev pub IsProduct : Frac → Frac → Frac → Type 0
IsProduct r a b = numerator r *ℤ (denominator a *ℤ denominator b) ≡ (numerator a *ℤ numerator b) *ℤ denominator r

-- of a divisor b that is not 0
abbrev pub IsRatio : Frac → Frac → Frac → Type 0
IsRatio r a b =
    (numerator b ≢ pos 0)
    × (numerator r *ℤ (denominator a *ℤ numerator b) ≡ (numerator a *ℤ denominator b) *ℤ denominator r)

-- of a number a that is not 0 if the power is negative
abbrev pub IsWholePower : Frac → Frac → ℤ → Type 0
IsWholePower r a (pos n) =
    numerator r *ℤ int_pow (denominator a) n ≡ int_pow (numerator a) n *ℤ denominator r
IsWholePower r a (negsuc n) =
    (numerator a ≢ pos 0)
    × (numerator r *ℤ int_pow (numerator a) (suc n) ≡ int_pow (denominator a) (suc n) *ℤ denominator r)

abbrev pub IsNegation : Frac → Frac → Type 0
IsNegation r a = (numerator r ≡ neg_ℤ (numerator a)) × (denominator r ≡ denominator a)
